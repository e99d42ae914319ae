-- Meaning: the member of a report's line about a reversal: that of the claim that is taken back.
use Rattle.std.specs.Prelude.{ℕ, if◌then◌else◌, List, [], ◌∷◌, drop, Option, Some, None}
use Rattle.rx_explain.specs.Before.{ledger_before}
use Rattle.rx_explain.specs.Spots.{Spot, spot_at}
use Rattle.rx_explain.specs.declared.at.At.{At}
use Rattle.rx_explain.specs.declared.explanation.Explanation.{Explanation}
use Rattle.rx_commands.specs.declared.replay.batch.Adjudicated.{Adjudicated}
use Rattle.rx_ledger.specs.Decisions.{decision_of}
use Rattle.rx_ledger.specs.Fold.{asked}
use Rattle.rx_ledger.specs.declared.decision.Decision.{Decision}
use Rattle.rx_ledger.specs.declared.decision.Decision.TheVariants as decision
use Rattle.rx_report.specs.declared.line.Line.{Line}
use Rattle.rx_settle.specs.Answers.{is_approved}
use Rattle.rx_commands.specs.Lines.{at_of}

-- the family and the person of the claim that a decision takes back
abbrev pub member_back : Decision → Option (List ℕ × List ℕ)
member_back (decision.TakenBack r) = Some (r.family, r.person)
member_back other = None

-- those of the claim that a transaction of a batch takes back, by the decision on it on the ledger before it
abbrev pub member_before : Adjudicated → At → Option Spot → Option (List ℕ × List ℕ)
member_before b at None = None
member_before b at (Some s) =
    member_back (decision_of (asked b.lot b.sheet at.place s.heard at.nth)
    (ledger_before b.lot b.sheet b.asked.items b.opening.ledger at.place s.heard at.nth) s.transaction)

abbrev pub with_member : Line → Option (List ℕ × List ℕ) → Line
with_member l m = record l { member = m }

-- the line of an approved reversal has them; a reversal's request names no member
abbrev pub with_reversed : Adjudicated → Line → Line
with_reversed b l =
    if is_approved l.answer then with_member l (member_before b (at_of l) (spot_at b.asked.items (at_of l))) else l

-- ---- the same by explanations of the approved reversals, in order

abbrev pub place_of : Line → List At
place_of l = if is_approved l.answer then at_of l ∷ [] else []

abbrev pub member_of : Option Explanation → Option (List ℕ × List ℕ)
member_of None = None
member_of (Some x) = member_back x.decision

abbrev pub first_member : List (Option Explanation) → Option (List ℕ × List ℕ)
first_member [] = None
first_member (x ∷ xs) = member_of x

abbrev pub lines_with_members : List Line → List (Option Explanation) → List Line
lines_with_members [] xs = []
lines_with_members (l ∷ ls) xs =
    if is_approved l.answer then with_member l (first_member xs) ∷ lines_with_members ls (drop 1 xs) else l ∷ lines_with_members ls xs
