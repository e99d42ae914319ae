-- Meaning: the reject codes in the bytes that passed (docs/FORMATS.md, "Reply transmission").
use Rattle.std.specs.Prelude.{◌≡◌, ℕ, ◌+◌, ◌*◌, ◌/◌, ◌%◌, ◌^◌, ◌<◌, ◌==◌, ◌||◌, if◌then◌else◌, Bool, List, [], ◌∷◌, ◌++◌, count_by, length, slice_index}
use Rattle.rx_run_log.specs.declared.codes_passed.CodesPassed.{CodesPassed}

-- the last five bytes as a number, after one more: four of them stay
abbrev pub next : ℕ → ℕ → ℕ
next five b = (five % 2 ^ 32) * 256 + b

abbrev pub last_five : ℕ → List ℕ → ℕ
last_five five [] = five
last_five five (b ∷ bs) = last_five (next five b) bs

-- two bytes as a number
abbrev pub two_bytes : ℕ → ℕ → ℕ
two_bytes one other = one * 256 + other

-- FS, F and B, which stand in front of a code
abbrev pub field_front : ℕ
field_front = 28 * 65_536 + two_bytes 70 66

-- the code that the last five bytes end with, where the field's front is before it
abbrev pub code_in : ℕ → List ℕ
code_in five = if five / 65_536 == field_front then (five % 65_536) ∷ [] else []

-- the codes in bytes that pass after these five, in order
abbrev pub codes_in : ℕ → List ℕ → List ℕ
codes_in five [] = []
codes_in five (b ∷ bs) = code_in (next five b) ++ codes_in (next five b) bs

-- no byte is a B
abbrev pub IsPlain : List ℕ → Type 0
IsPlain bytes = (k : ℕ) → k < length bytes → ¬ (slice_index bytes k ≡ 66)

-- one of the last two of five bytes is a B
abbrev pub ends_before_code : ℕ → Bool
ends_before_code five = five % 256 == 66 || five / 256 % 256 == 66

-- these bytes passed
pub record AreCodesOf (c : CodesPassed) (bytes : List ℕ) : Type 0 where
  pub five : c.five ≡ last_five 0 bytes
  pub codes : c.codes.items ≡ codes_in 0 bytes

-- these bytes passed after those before
abbrev pub AddsCodes : CodesPassed → CodesPassed → List ℕ → Type 0
AddsCodes before after piece = (bytes : List ℕ) → AreCodesOf before bytes → AreCodesOf after (bytes ++ piece)

-- how often a code of two bytes is among them
abbrev pub times : List ℕ → ℕ → ℕ
times codes code = count_by (λ c. c == code) codes
