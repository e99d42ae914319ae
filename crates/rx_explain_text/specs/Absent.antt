-- Text: what is said where no transaction is what was asked for: what that was, and what the batch has.
use Rattle.std.specs.Prelude.{ℕ, ◌-◌, ◌==◌, if◌then◌else◌, List, [], ◌∷◌, ◌++◌, codes, length, take}
use Rattle.std.specs.Fmt.{decimal}
use Rattle.std.specs.List.{flat_map}
use Rattle.rx_explain.specs.declared.at.At.{At}
use Rattle.rx_explain.specs.declared.finding.Query.{Query}
use Rattle.rx_explain.specs.declared.finding.Query.TheVariants as query
use Rattle.rx_explain_text.specs.Answered.{numbered_text}
use Rattle.rx_explain_text.specs.Claims.{at_text}
use Rattle.rx_explain_text.specs.Codes.{shown}
use Rattle.rx_explain_text.specs.Said.{said, say}
use Rattle.rx_explain_text.specs.declared.absent.TheConstants.{MOST_OTHERS}

-- ---- what was asked for

-- words that ask for nothing name no record
unfoldable pub record_text : ℕ → List ℕ
record_text place = if place == 0 then say "no such claim" else say "no record " ++ decimal place

unfoldable pub transaction_text : At → List ℕ
transaction_text at = say "no transaction " ++ at_text at

unfoldable pub prescription_text : ℕ → List ℕ
prescription_text reference = say "no rx " ++ decimal reference

unfoldable pub pharmacy_text : ℕ → List ℕ → List ℕ
pharmacy_text reference provider = prescription_text reference ++ (say " at " ++ shown provider)

abbrev pub named_text : Query → List ℕ
named_text (query.Place place) = record_text place
named_text (query.One at) = transaction_text at
named_text (query.Number number) = numbered_text (codes "no answer with number ") number
named_text (query.Reference reference) = prescription_text reference
named_text (query.ReferenceAt reference provider) = pharmacy_text reference provider

-- ---- what the batch has

-- how many records
unfoldable pub records_text : ℕ → List ℕ
records_text records =
    if records == 0 then say "; the batch has no record" else say "; the batch has records 1 to " ++ decimal records

abbrev pub after_comma : At → List ℕ
after_comma at = say ", " ++ at_text at

unfoldable pub places_left : ℕ → List ℕ
places_left more = if more == 0 then [] else say " and " ++ (decimal more ++ say " more")

abbrev pub near_words : Query → List ℕ
near_words (query.One at) = codes "; that record has "
near_words other = codes "; that prescription is in records "

-- the first places of those near, and how many more there are
unfoldable pub near_text : Query → At → List At → List ℕ
near_text w first others =
    said (near_words w) ++ (at_text first ++ (flat_map after_comma (take MOST_OTHERS others)
    ++ places_left (length others - MOST_OTHERS)))

abbrev pub has_text : Query → ℕ → List At → List ℕ
has_text w records [] = records_text records
has_text w records (first ∷ others) = near_text w first others

-- ---- the line

-- the transactions of the record, or of the prescription at any pharmacy, are near
unfoldable pub absent_line : Query → ℕ → List At → List ℕ
absent_line w records near = say "rxbatch: " ++ (named_text w ++ (has_text w records near ++ say "\n"))

-- where what was asked for is no transaction of the pharmacy, which may see only its own
unfoldable pub absent_for : Query → List ℕ → List ℕ
absent_for w provider = say "rxbatch: " ++ (named_text w ++ (say " of pharmacy " ++ (shown provider ++ say "\n")))
