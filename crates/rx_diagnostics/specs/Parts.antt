-- Meaning: parts of a text: its lines and their fields, and what stands at a place.
use Rattle.std.specs.Prelude.{ℕ, ◌+◌, ◌-◌, ◌==◌, if◌then◌else◌, List, [], count_by, drop, slice_get, take}
use Rattle.std.specs.List.{position_or_len}
use Rattle.std.specs.Option.{unwrap_or}
use Rattle.rx_text.specs.Bytes.{cut}

-- the piece of this number, from 1, between separators; empty if there is none
abbrev pub piece : ℕ → List ℕ → ℕ → List ℕ
piece separator text number = if number == 0 then [] else unwrap_or (slice_get (cut separator text) (number - 1)) []

-- a line, without its line feed
abbrev pub line_of : List ℕ → ℕ → List ℕ
line_of text number = piece 10 text number

abbrev pub line_feeds : List ℕ → ℕ
line_feeds text = count_by (λ b. b == 10) text

-- a field of a line, between strokes
abbrev pub field_of : List ℕ → ℕ → List ℕ
field_of line number = piece 124 line number

-- how many fields a line has: one more than it has strokes
abbrev pub fields : List ℕ → ℕ
fields line = count_by (λ b. b == 124) line + 1

-- what follows the byte at a place
abbrev pub after_byte : List ℕ → ℕ → List ℕ
after_byte text at = drop 1 (drop at text)

-- the bytes before the first one of this value, or all
abbrev pub up_to : ℕ → List ℕ → List ℕ
up_to stop bytes = take (position_or_len (λ b. b == stop) bytes) bytes

-- what a record holds whose STX stands at a place: up to the next ETX, or to the end
abbrev pub body_at : List ℕ → ℕ → List ℕ
body_at text at = up_to 3 (after_byte text at)
