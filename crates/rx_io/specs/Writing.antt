-- Meaning: what a write does to the bytes of a sink.
use Rattle.std.specs.Prelude.{◌≡◌, ◌≤◌, ◌==◌, ◌&&◌, ℕ, Bool, true, nat_lt, List, ◌++◌, length, take, Option, Result, Ok, Err}
use Rattle.std.specs.Io.KnownBytes.{Appends}
use Rattle.rx_io.specs.declared.fault.Failed.{Failed}

-- a write failed: it was refused, or took none of a piece that has bytes
abbrev pub is_failed_write : Result ℕ Failed → List ℕ → Bool
is_failed_write (Ok taken) piece = (taken == 0) && nat_lt 0 (length piece)
is_failed_write (Err failed) piece = true

-- a front of the text was written
pub record AppendsFront (before after : Option (List ℕ)) (text : List ℕ) : Type 0 where
  pub count : ℕ
  pub within : count ≤ length text
  pub appended : Appends before after (take count text)

-- of the text a front was written, and the rest is gathered
pub record Gathers (before after : Option (List ℕ)) (gathered text : List ℕ) : Type 0 where
  pub front : List ℕ
  pub appended : Appends before after front
  pub whole : front ++ gathered ≡ text
