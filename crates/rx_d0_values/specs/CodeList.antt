-- Meaning: the codes of one answer.
use Rattle.std.specs.Prelude.{◌≡◌, ◌≤◌, ℕ, ◌-◌, ◌&&◌, nat_le, if◌then◌else◌, List, length, drop, replicate, Option, Some, None}
use Rattle.rx_fields.specs.declared.code.Code.{Code}
use Rattle.rx_fields.specs.declared.code.Code.TheVariants.{Bin}

-- these codes, where there are 1 to 5
abbrev pub codes_of : List Code → Option (List Code)
codes_of codes = if nat_le 1 (length codes) && nat_le (length codes) 5 then Some codes else None

-- five places, of which the first len hold codes and the others are filled up
pub record IsFilled (len : ℕ) (codes : List Code) : Type 0 where
  pub whole : length codes ≡ 5
  pub some : 1 ≤ len
  pub few : len ≤ 5
  pub rest : drop len codes ≡ replicate (5 - len) Bin
