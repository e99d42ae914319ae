-- Meaning: what a clock shows, to the minute.
use Rattle.std.specs.Prelude.{◌≡◌, ℕ, Bool, true, ◌&&◌, nat_lt}

-- an hour and a minute, from 0
pub record Clock : Type 0 where
  pub hour : ℕ
  pub minute : ℕ

-- the clock shows this time: 00:00 to 23:59
abbrev pub is_clock : Clock → Bool
is_clock t = nat_lt t.hour 24 && nat_lt t.minute 60

-- `is_clock` as a fact
abbrev pub IsClock : Clock → Type 0
IsClock t = is_clock t ≡ true
