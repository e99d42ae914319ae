-- Meaning: how long a part of a run took.
use Rattle.std.specs.Prelude.{ℕ, ◌-◌, ◌/◌, ◌^◌, ◌&&◌, nat_le, nat_lt, if◌then◌else◌, Option, Some, None}
use Rattle.std.specs.Duration.{as_nanos}
use Rattle.std.specs.declared.time.Duration.{Duration}

-- in whole microseconds, where the second time isn't before the first and 64 bits hold them
abbrev pub micros_from : Duration → Duration → Option ℕ
micros_from from to =
    if nat_le (as_nanos from) (as_nanos to) && nat_lt ((as_nanos to - as_nanos from) / 1000) (2 ^ 64)
    then Some ((as_nanos to - as_nanos from) / 1000) else None

-- where both times are known
abbrev pub micros_between : Option Duration → Option Duration → Option ℕ
micros_between None to = None
micros_between (Some from) None = None
micros_between (Some from) (Some to) = micros_from from to
