-- Text: what is said of the fields of a books line: each has a name and holds a kind of text.
use Rattle.std.specs.Prelude.{ℕ, ◌+◌, Bool, false, not, ◌&&◌, ◌||◌, ◌==◌, nat_eq, nat_le, nat_lt, if◌then◌else◌}
use Rattle.std.specs.Prelude.{List, [], ◌∷◌, ◌++◌, codes, length, Option, Some, None, option_map}
use Rattle.std.specs.Prelude.{Result, Ok, Err, is_err}
use Rattle.std.specs.Fmt.{decimal}
use Rattle.std.specs.List.{ends_with, list_any}
use Rattle.rx_fields.specs.Calendar.{date_of}
use Rattle.rx_fields.specs.Digits.{number_of}
use Rattle.rx_fields.specs.declared.fault.FieldFault.{FieldFault}
use Rattle.rx_fields.specs.declared.limits.TheConstants.{MOST_CENTS, MOST_QUANTITY, MOST_REFERENCE}
use Rattle.rx_text.specs.Bytes.{all_digits, all_printable}
use Rattle.rx_diagnostics.specs.Looks.{begins}
use Rattle.rx_diagnostics.specs.Parts.{field_of}
use Rattle.rx_diagnostics.specs.Quoting.{quoted_text}
use Rattle.rx_diagnostics.specs.declared.books_field.Field.{Field}
use Rattle.rx_diagnostics.specs.declared.books_field.Field.TheVariants as field
use Rattle.rx_diagnostics.specs.declared.books_field.Holds.{Holds}
use Rattle.rx_diagnostics.specs.declared.books_field.Holds.TheVariants as holds

abbrev pub name_of : Field → List ℕ
name_of field.Family = codes "family"
name_of field.Person = codes "person"
name_of field.FirstDay = codes "first day"
name_of field.LastDay = codes "last day"
name_of field.Deductible = codes "deductible"
name_of field.OutOfPocket = codes "out of pocket"
name_of field.Provider = codes "provider"
name_of field.Reference = codes "reference"
name_of field.Date = codes "date"
name_of field.Product = codes "product"
name_of field.Quantity = codes "quantity"
name_of field.Days = codes "days"
name_of field.Cost = codes "ingredient cost (F6)"
name_of field.Fee = codes "dispensing fee (F7)"
name_of field.ClaimDeductible = codes "deductible (FH)"
name_of field.Copay = codes "copay (FI)"
name_of field.Coinsurance = codes "coinsurance (4U)"
name_of field.Number = codes "authorization number"

abbrev pub holds_of : Field → Holds
holds_of field.Family = holds.Id 20
holds_of field.Person = holds.Id 3
holds_of field.FirstDay = holds.Date
holds_of field.LastDay = holds.Date
holds_of field.Deductible = holds.Figure
holds_of field.OutOfPocket = holds.Figure
holds_of field.Provider = holds.Id 15
holds_of field.Reference = holds.Number 0 MOST_REFERENCE
holds_of field.Date = holds.Date
holds_of field.Product = holds.Digits 11
holds_of field.Quantity = holds.Number 1 MOST_QUANTITY
holds_of field.Days = holds.Number 1 999
holds_of field.Cost = holds.Cents
holds_of field.Fee = holds.Cents
holds_of field.ClaimDeductible = holds.Cents
holds_of field.Copay = holds.Cents
holds_of field.Coinsurance = holds.Cents
holds_of field.Number = holds.Digits 15

-- ---- the fields of each kind of line, after the kind

abbrev pub member_fields : List Field
member_fields = field.Family ∷ field.Person ∷ field.FirstDay ∷ field.LastDay ∷ field.Deductible ∷ []

-- up to the copay
abbrev pub claim_front : List Field → List Field
claim_front rest =
    field.Provider ∷ field.Reference ∷ field.Date ∷ field.Family ∷ field.Person ∷ field.Product ∷ field.Quantity ∷ field.Days
    ∷ field.Cost ∷ field.Fee ∷ field.ClaimDeductible ∷ field.Copay ∷ rest

-- version 1 has none for 4U
abbrev pub first_claim_fields : List Field
first_claim_fields = claim_front (field.Number ∷ [])

abbrev pub claim_fields : List Field
claim_fields = claim_front (field.Coinsurance ∷ field.Number ∷ [])

-- versions 1 and 2 have no deductible
abbrev pub short_total_fields : List Field
short_total_fields = field.Family ∷ field.OutOfPocket ∷ []

abbrev pub total_fields : List Field
total_fields = field.Family ∷ field.OutOfPocket ∷ field.Deductible ∷ []

-- ---- what is wrong with a field

-- an id of 1 to this many bytes
abbrev pub id_fault : ℕ → List ℕ → Option (List ℕ)
id_fault most field =
    if length field == 0 then Some (codes "expected an id")
    else (if nat_lt most (length field)
    then Some (decimal (length field) ++ (codes " bytes, expected at most " ++ decimal most))
    else (if ends_with nat_eq field (codes " ") then Some (codes "trailing blank")
    else (if all_printable field then None else Some (codes "not printable ASCII"))))

-- a date of eight digits
abbrev pub date_fault : List ℕ → Option (List ℕ)
date_fault field =
    if not (length field == 8) || not (all_digits field) then Some (codes "expected 8 digits, e.g. 20260101")
    else (if is_err (date_of field) then Some (codes "no such date") else None)

-- digits that are a number from low to high
abbrev pub is_number_between : ℕ → ℕ → Result ℕ FieldFault → Bool
is_number_between low high (Ok n) = nat_le low n && nat_le n high
is_number_between low high (Err e) = false

abbrev pub is_between : ℕ → ℕ → List ℕ → Bool
is_between low high field = is_number_between low high (number_of 19 field)

abbrev pub number_fault : ℕ → ℕ → List ℕ → Option (List ℕ)
number_fault low high field =
    if length field == 0 || not (all_digits field) then Some (codes "expected only digits")
    else (if nat_lt 1 (length field) && begins field (codes "0") then Some (codes "expected no leading zeros")
    else (if not (is_between low high field)
    then Some (codes "expected a number from " ++ (decimal low ++ (codes " to " ++ decimal high))) else None))

abbrev pub figure_fault : List ℕ → Option (List ℕ)
figure_fault field =
    if length field == 0 || not (all_digits field) then Some (codes "expected whole cents, only digits")
    else (if nat_lt 1 (length field) && begins field (codes "0") then Some (codes "expected no leading zeros")
    else (if nat_lt 20 (length field) then Some (codes "expected at most 20 digits") else None))

-- an amount in dollars has a point
abbrev pub has_point : List ℕ → Bool
has_point field = list_any (λ b. b == 46) field

abbrev pub cents_fault : List ℕ → Option (List ℕ)
cents_fault field =
    if has_point field then Some (codes "expected cents, without a point, e.g. 15000 for 150.00")
    else number_fault 0 MOST_CENTS field

abbrev pub digits_fault : ℕ → List ℕ → Option (List ℕ)
digits_fault count field =
    if length field == count && all_digits field then None
    else Some (codes "expected " ++ (decimal count ++ codes " digits"))

abbrev pub fault_in : Holds → List ℕ → Option (List ℕ)
fault_in (holds.Id most) field = id_fault most field
fault_in holds.Date field = date_fault field
fault_in (holds.Number low high) field = number_fault low high field
fault_in holds.Cents field = cents_fault field
fault_in holds.Figure field = figure_fault field
fault_in (holds.Digits count) field = digits_fault count field

-- its number, its name, what stands there, and the fault
abbrev pub fault_words : ℕ → Field → List ℕ → List ℕ → List ℕ
fault_words number f text fault =
    codes "field " ++ (decimal number ++ (codes ", " ++ (name_of f ++ (codes " " ++ (quoted_text text ++ (codes ": " ++ fault))))))

unfoldable pub field_fault : ℕ → Field → List ℕ → Option (List ℕ)
field_fault number f text = option_map (fault_words number f text) (fault_in (holds_of f) text)

abbrev pub first_of : Option (List ℕ) → Option (List ℕ) → Option (List ℕ)
first_of (Some text) other = Some text
first_of None other = other

-- the first of these fields of a line that is wrong, the first having this number
abbrev pub first_fault : ℕ → List Field → List ℕ → Option (List ℕ)
first_fault number [] line = None
first_fault number (f ∷ fs) line = first_of (field_fault number f (field_of line number)) (first_fault (number + 1) fs line)
