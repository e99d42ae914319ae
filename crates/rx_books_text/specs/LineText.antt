-- Meaning: the lines of a books file and the one spelling of each (docs/FORMATS.md, "Books file").
use Rattle.std.specs.Prelude.{ℕ, List, [], ◌∷◌, ◌++◌, codes, Option, Some, None}
use Rattle.std.specs.Fmt.{decimal}
use Rattle.std.specs.List.{join_with_byte}
use Rattle.rx_fields.specs.Calendar.{date_text}
use Rattle.rx_fields.specs.Digits.{digits_text}
use Rattle.rx_ledger.specs.declared.row.Row.{Row}
use Rattle.rx_books_text.specs.declared.head.Head.{Head}
use Rattle.rx_books_text.specs.declared.line.Line.{Line}
use Rattle.rx_books_text.specs.declared.line.Line.TheVariants as line
use Rattle.rx_books_text.specs.declared.line.MemberLine.{MemberLine}
use Rattle.rx_books_text.specs.declared.line.TotalLine.{TotalLine}
use Rattle.rx_books_text.specs.declared.version.Version.{Version}
use Rattle.rx_books_text.specs.declared.version.Version.TheVariants.{One, Two, Three}

-- fields with a bar between each two
abbrev pub joined : List (List ℕ) → List ℕ
joined fields = join_with_byte 124 fields

-- fields with a bar after each
abbrev pub barred : List (List ℕ) → List ℕ
barred [] = []
barred (field ∷ fields) = field ++ 124 ∷ barred fields

-- the family, the person, the coverage dates, the deductible so far
abbrev pub member_fields : MemberLine → List (List ℕ)
member_fields m =
    m.member.key.family ∷ m.member.key.person ∷ date_text m.member.coverage.first ∷ date_text m.member.coverage.last
    ∷ decimal m.deductible ∷ []

-- the 4U field, which version 1 doesn't have
abbrev pub coinsurance_field : Version → ℕ → List (List ℕ)
coinsurance_field One n = []
coinsurance_field Two n = decimal n ∷ []
coinsurance_field Three n = decimal n ∷ []

-- the fill key, the member, what was dispensed, F6, F7, FH, FI, 4U, the authorization number
abbrev pub claim_fields : Version → Row → List (List ℕ)
claim_fields v r =
    r.key.provider ∷ decimal r.key.reference ∷ date_text r.key.date ∷ r.family ∷ r.person
    ∷ digits_text 11 r.product ∷ decimal r.quantity ∷ decimal r.days
    ∷ decimal r.pricing.ingredient_cost ∷ decimal r.pricing.dispensing_fee
    ∷ decimal r.pricing.deductible ∷ decimal r.pricing.copay
    ∷ (coinsurance_field v r.pricing.coinsurance ++ digits_text 15 r.number ∷ [])

-- the family's deductible, where the line has it
abbrev pub deductible_field : Option ℕ → List (List ℕ)
deductible_field None = []
deductible_field (Some n) = decimal n ∷ []

-- the family, its out of pocket, its deductible
abbrev pub total_fields : TotalLine → List (List ℕ)
total_fields t = t.family ∷ decimal t.out_of_pocket ∷ deductible_field t.deductible

-- a line of a version, without its line feed
abbrev pub line_text : Version → Line → List ℕ
line_text v (line.Member m) = codes "M|" ++ joined (member_fields m)
line_text v (line.Claim r) = codes "C|" ++ joined (claim_fields v r)
line_text v (line.Total t) = codes "T|" ++ joined (total_fields t)

abbrev pub version_text : Version → List ℕ
version_text One = codes "1"
version_text Two = codes "2"
version_text Three = codes "3"

-- the head line, without its line feed
abbrev pub head_text : Head → List ℕ
head_text h =
    codes "BOOKS|" ++ joined (version_text h.version ∷ date_text h.period.first ∷ date_text h.period.last ∷ [])

-- a line with its line feed
abbrev pub ended : List ℕ → List ℕ
ended text = text ++ 10 ∷ []
