-- Worked cases of the definitions: keys of a plan sheet that are ignored, and warnings.
use Rattle.std.proofs.Common.{◌≡◌, [], ◌∷◌, ◌++◌, Some, pos, true, refl, codes}
use Rattle.std.specs.Fmt.{digits}
use Rattle.std.specs.Str.{is_utf8, chars}
use Rattle.toml.proofs.OnLiterals.{toml_on_literals}
use Rattle.toml.specs.Data.{Data, integer, member, no_members, table}
use Rattle.rx_fields.specs.Calendar.{date_text}
use Rattle.rx_fields.specs.Digits.{digits_text}
use Rattle.rx_sheet.specs.SheetText.{tree_of}
use Rattle.rx_check.specs.Ignored.{ignored_lines, sheet_lines}
use Rattle.rx_check.specs.Report.{adjudicated_text, lines_text, may_pass_text, none_under_text, period_text}

misspelt-key : ignored_lines (codes "family_deductable = 50000\n")
    ≡ codes "key family_deductable is ignored: family_deductible may be meant" ∷ []
unfolding toml_on_literals tree_of is_utf8 chars
misspelt-key = refl

no-toml : ignored_lines (codes "remark\n") ≡ []
unfolding toml_on_literals tree_of is_utf8 chars
no-toml = refl

abbrev amount : Data
amount = integer (pos 175)

-- the keys of the sheet before those of tiers and drugs
keys-of-all : sheet_lines
    (member (codes "drugs") (table (member (codes "00002000202") (table (member (codes "max_days") amount no_members)) no_members))
    (member (codes "remark") amount
    (member (codes "tiers") (table (member (codes "2") (table (member (codes "per_cent") amount no_members))
    (member (codes "fee") amount no_members))) no_members)))
    ≡ codes "key remark is ignored"
    ∷ codes "tier 2: key per_cent is ignored: percent may be meant"
    ∷ codes "tier fee has the name of a key of the sheet: that key belongs above [tiers]"
    ∷ codes "drug 00002000202: key max_days is ignored: it belongs above the first table" ∷ []
keys-of-all = refl

-- warnings of books and of a batch
other-period : period_text (codes "books.txt")
    (Some (record { first = record { year = 2025; month = 1; day = 1 }; last = record { year = 2025; month = 12; day = 31 } }))
    ≡ codes "books.txt:1: warning: the books are of 20250101 to 20251231"
    ++ codes ", another period than the sheet's: sums start again at 0, claims before it are rejected (81)\n"
unfolding date_text digits_text
other-period = refl

not-many-lines : lines_text (codes "books.txt") 900_000 ≡ []
unfolding lines_text
not-many-lines = refl

another-plan : none_under_text (codes "batch.txt") true
    ≡ codes "batch.txt: warning: no record names the sheet's bin and pcn: each would be rejected\n"
unfolding none_under_text
another-plan = refl

not-adjudicated : adjudicated_text (codes "batch.txt") (codes "books.txt") 0 ≡ []
unfolding adjudicated_text
not-adjudicated = refl

too-long : may_pass_text (codes "books.txt") true
    ≡ codes "books.txt: warning: with this batch the end books could have more than 1000000 lines, which no run reads\n"
unfolding digits may_pass_text
too-long = refl
