-- Meaning: what the text of a field stands for; None where it is absent or no such value.
use Rattle.std.specs.Prelude.{ℕ, Bool, false, ◌||◌, ◌&&◌, nat_le, ◌==◌, if◌then◌else◌, List, Option, Some}
use Rattle.std.specs.Prelude.{None, is_none, is_some, Result, Ok, Err, ℤ, pos, negsuc, codes}
use Rattle.std.specs.Result.{result_ok}
use Rattle.rx_fields.specs.declared.fault.FieldFault.{FieldFault}
use Rattle.rx_fields.specs.Calendar.{Civil, date_of}
use Rattle.rx_fields.specs.Amount.{signed_of}
use Rattle.rx_fields.specs.Digits.{number_of}
use Rattle.rx_fields.specs.Numbered.{product_of}
use Rattle.rx_fields.specs.Text.{id_of}
use Rattle.rx_d0_request.specs.Cut.{same}

-- the id of a pharmacy
abbrev pub provider_in : List ℕ → Option (List ℕ)
provider_in bytes = result_ok (id_of 15 bytes)

-- the date of service
abbrev pub date_in : List ℕ → Option Civil
date_in bytes = result_ok (date_of bytes)

-- the field has this very text
abbrev pub is_text : List ℕ → Option (List ℕ) → Bool
is_text text None = false
is_text text (Some value) = same value text

-- an id of at most max bytes
abbrev pub id_in : ℕ → Option (List ℕ) → Option (List ℕ)
id_in max None = None
id_in max (Some text) = result_ok (id_of max text)

-- a person code; an absent one is 01
abbrev pub person_in : Option (List ℕ) → Option (List ℕ)
person_in None = Some (codes "01")
person_in (Some text) = id_in 3 (Some text)

-- a number of 1 to max digits
abbrev pub number_in : ℕ → Option (List ℕ) → Option ℕ
number_in max None = None
number_in max (Some text) = result_ok (number_of max text)

abbrev pub nonzero : Option ℕ → Option ℕ
nonzero None = None
nonzero (Some n) = if n == 0 then None else Some n

-- a number of 1 to max digits that isn't zero
abbrev pub positive_in : ℕ → Option (List ℕ) → Option ℕ
positive_in max text = nonzero (number_in max text)

-- eleven digits
abbrev pub product_in : Option (List ℕ) → Option ℕ
product_in None = None
product_in (Some text) = product_of text

abbrev pub cents : Result ℤ FieldFault → Option ℕ
cents (Ok (pos n)) = Some n
cents (Ok (negsuc n)) = None
cents (Err e) = None

-- an overpunched amount that isn't negative
abbrev pub amount_in : Option (List ℕ) → Option ℕ
amount_in None = None
amount_in (Some text) = cents (signed_of text)

-- present, and no such amount
abbrev pub is_no_amount : Option (List ℕ) → Bool
is_no_amount text = is_some text && is_none (amount_in text)

abbrev pub is_low : Option ℕ → Bool
is_low None = false
is_low (Some n) = nat_le n 1

-- absent, or not a compound, or not said
abbrev pub is_plain : Option (List ℕ) → Bool
is_plain text = is_none text || (is_text (codes "0") text || is_text (codes "1") text)

-- absent, or no other coverage
abbrev pub is_sole : Option (List ℕ) → Bool
is_sole text = is_none text || is_low (number_in 2 text)
