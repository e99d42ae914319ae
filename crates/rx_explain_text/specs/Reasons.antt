-- Text: why it was decided so, in words; nothing of a claim that is paid, whose figures say it.
use Rattle.std.specs.Prelude.{ℕ, ◌*◌, ◌/◌, ◌==◌, ◌-ℤ◌, unsigned_abs, Bool, false, if◌then◌else◌, List, [], ◌++◌, Option, Some, None, codes}
use Rattle.std.specs.Fmt.{decimal}
use Rattle.rx_d0_values.specs.Priced.{patient_pay, total_paid}
use Rattle.rx_d0_values.specs.declared.bill.BillParts.{BillParts}
use Rattle.rx_d0_values.specs.declared.pricing.Amounts.{Amounts}
use Rattle.rx_d0_values.specs.declared.transaction.Transaction.{Transaction}
use Rattle.rx_d0_values.specs.declared.transaction.Transaction.TheVariants.{Bill, Reverse, Faulty}
use Rattle.rx_ledger.specs.declared.decision.Decision.{Decision}
use Rattle.rx_ledger.specs.declared.decision.Decision.TheVariants as decision
use Rattle.rx_explain.specs.declared.explanation.Explanation.{Explanation}
use Rattle.rx_explain.specs.declared.traced.Source.{Source}
use Rattle.rx_explain.specs.declared.traced.Source.TheVariants.{Opening, Record, Elsewhere}
use Rattle.rx_explain.specs.declared.traced.Traced.{Traced}
use Rattle.rx_explain_text.specs.Claims.{standing_text, traced_text}
use Rattle.rx_explain_text.specs.Codes.{code_lines, shown}
use Rattle.rx_print.specs.Dates.{dashed}
use Rattle.rx_print.specs.Money.{money_text}
use Rattle.rx_explain_text.specs.Said.{said, say}
use Rattle.rx_fields.specs.Calendar.{Civil, day_number}
use Rattle.rx_fields.specs.Digits.{digits_text}
use Rattle.rx_fields.specs.Numbered.{LotParts, Span, is_within}
use Rattle.rx_fields.specs.declared.limits.TheConstants.{NUMBERS_OF_A_BATCH}
use Rattle.rx_ledger.specs.declared.figures.Figures.{Figures}

-- ---- a billing that isn't paid

-- words and the day that they speak of
unfoldable pub dated_text : List ℕ → Civil → List ℕ
dated_text words day = said words ++ (dashed day ++ say "\n")

-- what was paid before
unfoldable pub paid_text : Amounts → List ℕ
paid_text a =
    say "; nothing is paid again (member " ++ (money_text (patient_pay a) ++ (say ", plan " ++ (money_text (total_paid a)
    ++ say ")\n")))

unfoldable pub covered_text : Span → List ℕ
covered_text coverage =
    say "  the member is covered from " ++ (dashed coverage.first ++ dated_text (codes " to ") coverage.last)

unfoldable pub ended_text : Span → List ℕ
ended_text period = dated_text (codes "  the benefit period ends on ") period.last

-- the coverage where the date is outside of it, else the end of the period
abbrev pub coverage_text : Span → Span → Civil → List ℕ
coverage_text period coverage date =
    if is_within coverage date then ended_text period else covered_text coverage

-- days passed times 100 against days times the percentage
unfoldable pub sum_text : ℕ → ℕ → ℕ → List ℕ
sum_text passed days percent =
    decimal passed ++ (say " x 100 = " ++ (decimal (passed * 100) ++ (say " < " ++ (decimal days ++ (say " x "
    ++ (decimal percent ++ (say " = " ++ decimal (days * percent))))))))

-- from when on it isn't too soon
abbrev pub open_text : Option Civil → List ℕ
open_text None = say "; the calendar has no date that is late enough\n"
open_text (Some day) = dated_text (codes "; first date ") day

-- days from one date to another
abbrev pub days_between : Civil → Civil → ℕ
days_between date earlier = unsigned_abs (day_number date -ℤ day_number earlier)

-- the earlier fill, the sum that it fails, and from when on it doesn't
unfoldable pub earlier_text : Figures → Explanation → Traced → List ℕ
earlier_text figures e t =
    say "  earlier fill " ++ (traced_text t ++ (say ", " ++ (decimal t.row.days ++ (say " days: "
    ++ (sum_text (days_between e.date t.row.key.date) t.row.days figures.refill_percent ++ open_text e.open_from)))))

-- of an earlier fill at another pharmacy its date, and from when on it isn't too soon
unfoldable pub elsewhere_fill : Civil → Option Civil → List ℕ
elsewhere_fill date open_from = say "  earlier fill at another pharmacy, of " ++ (dashed date ++ open_text open_from)

abbrev pub fill_by : Source → Figures → Explanation → Traced → List ℕ
fill_by Opening figures e t = earlier_text figures e t
fill_by (Record at) figures e t = earlier_text figures e t
fill_by Elsewhere figures e t = elsewhere_fill t.row.key.date e.open_from

abbrev pub soon_text : Figures → Explanation → Option Traced → List ℕ
soon_text figures e None = []
soon_text figures e (Some t) = fill_by t.source figures e t

unfoldable pub family_text : List ℕ → List ℕ
family_text family = say "  the books list no member of family " ++ (shown family ++ say "\n")

unfoldable pub person_text : List ℕ → List ℕ → List ℕ
person_text family person =
    say "  the books list family " ++ (shown family ++ (say ", but no person " ++ (shown person ++ say " of it\n")))

-- the claim that stands, and that it isn't paid again
unfoldable pub same_text : Explanation → Amounts → List ℕ
same_text e a = say "  this claim stands already: " ++ (standing_text e.decision e.standing ++ paid_text a)

-- the opening books have the claim by an answer of this batch's number
abbrev pub is_of_batch : LotParts → Source → ℕ → Bool
is_of_batch lot Opening number = number / NUMBERS_OF_A_BATCH == lot.number
is_of_batch lot (Record at) number = false
is_of_batch lot Elsewhere number = false

-- so the batch was adjudicated on them
unfoldable pub again_text : ℕ → List ℕ
again_text number =
    say "  the opening books have it by batch " ++ (digits_text 7 number ++ say ": this batch was adjudicated on them already\n")

abbrev pub again_if : LotParts → Traced → List ℕ
again_if lot t = if is_of_batch lot t.source t.row.number then again_text lot.number else []

abbrev pub again_of : LotParts → Option Traced → List ℕ
again_of lot None = []
again_of lot (Some t) = again_if lot t

unfoldable pub stands_text : LotParts → Explanation → Amounts → List ℕ
stands_text lot e a = same_text e a ++ again_of lot e.standing

unfoldable pub other_text : Explanation → List ℕ
other_text e =
    say "  another claim stands under this pharmacy, prescription and date: "
    ++ (standing_text e.decision e.standing ++ say "\n")

unfoldable pub unlisted_text : ℕ → List ℕ
unlisted_text product = say "  the plan sheet doesn't list product " ++ (digits_text 11 product ++ say "\n")

unfoldable pub supply_text : ℕ → ℕ → List ℕ
supply_text days most =
    say "  a supply for " ++ (decimal days ++ (say " days; the plan pays for at most " ++ (decimal most ++ say "\n")))

abbrev pub bill_reason : Decision → LotParts → Figures → Explanation → BillParts → List ℕ
bill_reason decision.NoFamily lot figures e b = family_text b.family
bill_reason decision.NoPerson lot figures e b = person_text b.family b.person
bill_reason (decision.SameStands r) lot figures e b = stands_text lot e r.pricing
bill_reason (decision.OtherStands r) lot figures e b = other_text e
bill_reason decision.BeforePeriod lot figures e b = dated_text (codes "  the benefit period begins on ") figures.period.first
bill_reason decision.AfterCreation lot figures e b = dated_text (codes "  the batch was created on ") lot.created
bill_reason (decision.NotCovered m) lot figures e b = coverage_text figures.period m.coverage e.date
bill_reason decision.NotListed lot figures e b = unlisted_text b.product
bill_reason decision.TooManyDays lot figures e b = supply_text b.days figures.max_days
bill_reason decision.TooSoon lot figures e b = soon_text figures e e.standing
bill_reason other lot figures e b = []

-- ---- a reversal

unfoldable pub product_text : Explanation → ℕ → ℕ → List ℕ
product_text e stands product =
    say "  the claim that stands is of product " ++ (digits_text 11 stands ++ (say ", not " ++ (digits_text 11 product
    ++ (say "; it is " ++ (standing_text e.decision e.standing ++ say "\n")))))

unfoldable pub taken_text : Explanation → Amounts → List ℕ
taken_text e a =
    say "  the claim " ++ (standing_text e.decision e.standing ++ (say " stands no longer; the plan gets back "
    ++ (money_text (total_paid a) ++ say "\n")))

abbrev pub reversal_reason : Decision → Explanation → ℕ → List ℕ
reversal_reason decision.NoneStands e product = say "  no claim stands under this pharmacy, prescription and date\n"
reversal_reason (decision.OtherProduct r) e product = product_text e r.product product
reversal_reason (decision.TakenBack r) e product = taken_text e r.pricing
reversal_reason other e product = []

-- ---- each

-- of what can't be read a line for each code
abbrev pub reason_text : Transaction → LotParts → Figures → Explanation → List ℕ → List ℕ
reason_text (Bill b) lot figures e request = bill_reason e.decision lot figures e b
reason_text (Reverse v) lot figures e request = reversal_reason e.decision e v.product
reason_text (Faulty f) lot figures e request = code_lines figures.door request e.at.nth f.codes
