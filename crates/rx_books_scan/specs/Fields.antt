-- Plumbing: fields at the front of bytes.
use Rattle.std.specs.Prelude.{◌≡◌, ℕ, ◌^◌, ◌<◌, ◌≤◌, Bool, true, false, not, ◌&&◌, ◌==◌, List, [], ◌∷◌, ◌++◌, length, take}
use Rattle.rx_fields.specs.declared.limits.TheConstants.{MOST_QUANTITY, MOST_REFERENCE}
use Rattle.rx_fields.specs.declared.key.Key.{Key}
use Rattle.rx_fields.specs.Calendar.{IsCivil}
use Rattle.rx_text.specs.Bytes.{all_digits, is_printable}
use Rattle.rx_fields.specs.Digits.{number}
use Rattle.rx_fields.specs.Text.{is_bar, IsId}
use Rattle.rx_ledger.specs.declared.member.MemberKey.{MemberKey}

-- the byte can stand in an id: it is printable, and no bar
abbrev pub is_letter : ℕ → Bool
is_letter b = is_printable b && not (is_bar b)

-- the bytes before the place are digits, at most eighteen, of this number
pub record AreDigits (bytes : List ℕ) (n at : ℕ) : Type 0 where
  pub in_range : at < length bytes
  pub few : at ≤ 18
  pub digits : all_digits (take at bytes) ≡ true
  pub value : n ≡ number (take at bytes)

-- digits are some, with no zero before another
abbrev pub is_plain : List ℕ → Bool
is_plain [] = false
is_plain (d ∷ []) = true
is_plain (d ∷ e ∷ ds) = not (d == 48)

-- fields with a bar after each, in front of the rest
abbrev pub followed : List (List ℕ) → List ℕ → List ℕ
followed [] rest = rest
followed (field ∷ fields) rest = field ++ 124 ∷ followed fields rest

-- a fill key within its limits
pub record IsKey (k : Key) : Type 0 where
  pub provider : IsId 15 k.provider
  pub reference : k.reference ≤ MOST_REFERENCE
  pub date : IsCivil k.date

-- a family and a person
pub record IsMemberKey (k : MemberKey) : Type 0 where
  pub family : IsId 20 k.family
  pub person : IsId 3 k.person

-- what was dispensed, within its limits: the product, the quantity and the days supply
pub record IsDispensed (p q d : ℕ) : Type 0 where
  pub product : p < 10 ^ 11
  pub quantity : (1 ≤ q) × (q ≤ MOST_QUANTITY)
  pub days : (1 ≤ d) × (d ≤ 999)
