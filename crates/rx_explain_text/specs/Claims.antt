-- Text: how a standing claim is described.
use Rattle.std.specs.Prelude.{ℕ, List, [], ◌++◌, Option, Some, None, codes}
use Rattle.std.specs.Fmt.{decimal}
use Rattle.rx_explain.specs.declared.at.At.{At}
use Rattle.rx_ledger.specs.declared.decision.Decision.{Decision}
use Rattle.rx_ledger.specs.declared.decision.Decision.TheVariants as decision
use Rattle.rx_explain.specs.declared.traced.Source.{Source}
use Rattle.rx_explain.specs.declared.traced.Source.TheVariants.{Opening, Record, Elsewhere}
use Rattle.rx_explain.specs.declared.traced.Traced.{Traced}
use Rattle.rx_explain_text.specs.Codes.{shown}
use Rattle.rx_print.specs.Dates.{dashed}
use Rattle.rx_explain_text.specs.Said.{said, say}
use Rattle.rx_fields.specs.Calendar.{Civil}

-- the place of a transaction, as 2.1
unfoldable pub at_text : At → List ℕ
at_text at = decimal at.place ++ (say "." ++ decimal at.nth)

-- where a claim comes from
abbrev pub from_text : Source → List ℕ
from_text Opening = say " (opening books"
from_text (Record at) = say " (record " ++ at_text at
from_text Elsewhere = say " (not shown"

-- what takes it back later, if anything
abbrev pub end_text : Option At → List ℕ
end_text None = []
end_text (Some at) = say "; taken back by " ++ at_text at

unfoldable pub source_text : Traced → List ℕ
source_text t = from_text t.source ++ (end_text t.taken_back ++ say ")")

-- a person of a family, with the words before and between
unfoldable pub whose_member : List ℕ → List ℕ → List ℕ → List ℕ → List ℕ
whose_member before between family person = said before ++ (shown family ++ (said between ++ shown person))

-- prescription, date, pharmacy, whose it is, and where it comes from
unfoldable pub whole_text : Traced → List ℕ
whole_text t =
    say "rx " ++ (decimal t.row.key.reference ++ (say " of " ++ (dashed t.row.key.date
    ++ (say " at " ++ (shown t.row.key.provider
    ++ (whose_member (codes " for ") (codes "/") t.row.family t.row.person ++ source_text t))))))

-- of another pharmacy's claim only the date
unfoldable pub elsewhere_text : Civil → List ℕ
elsewhere_text date = say "claim of " ++ (dashed date ++ say " at another pharmacy")

abbrev pub text_by : Source → Traced → List ℕ
text_by Opening t = whole_text t
text_by (Record at) t = whole_text t
text_by Elsewhere t = elsewhere_text t.row.key.date

unfoldable pub traced_text : Traced → List ℕ
traced_text t = text_by t.source t

-- the claim that decided; one that this transaction takes back is taken back by no later one
abbrev pub as_decided : Decision → Traced → Traced
as_decided (decision.TakenBack r) t = record { row = t.row; source = t.source; taken_back = None }
as_decided other t = t

abbrev pub standing_text : Decision → Option Traced → List ℕ
standing_text c None = []
standing_text c (Some t) = traced_text (as_decided c t)
