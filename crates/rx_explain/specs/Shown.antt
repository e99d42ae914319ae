-- Meaning: the standing claims that are shown with a decision.
use Rattle.std.specs.Prelude.{ℕ, ℤ, pos, ◌*◌, ◌*ℤ◌, ◌+ℤ◌, Bool, true, false, ◌&&◌, if◌then◌else◌, List, [], ◌∷◌, filter, Option, Some, None}
use Rattle.std.specs.List.{fold}
use Rattle.std.specs.Ordering.{int_cmp, is_lt}
use Rattle.std.specs.declared.cmp.Ordering.{Ordering}
use Rattle.rx_fields.specs.Calendar.{Civil, day_number}
use Rattle.rx_fields.specs.Numbered.{Span, is_within}
use Rattle.rx_d0_values.specs.declared.bill.BillParts.{BillParts}
use Rattle.rx_d0_values.specs.declared.transaction.Transaction.{Transaction}
use Rattle.rx_d0_values.specs.declared.transaction.Transaction.TheVariants.{Bill}
use Rattle.rx_ledger.specs.declared.decision.Decision.{Decision}
use Rattle.rx_ledger.specs.declared.decision.Decision.TheVariants as decision
use Rattle.rx_ledger.specs.declared.figures.Figures.{Figures}
use Rattle.rx_ledger.specs.declared.row.Row.{Row}
use Rattle.rx_ledger.specs.Decisions.{is_too_soon, row_of}
use Rattle.rx_ledger.specs.Ledger.{Ledger, rows_of}
use Rattle.rx_ledger.specs.Members.{is_same}
use Rattle.rx_ledger.specs.Rows.{claimed_by}
use Rattle.rx_sorted.specs.Orders.{by_two, text_cmp}

-- until when a fill makes billings too soon, in hundredths of days: its date and the percentage of its days
abbrev pub binds_until : Figures → Row → ℤ
binds_until f r = (day_number r.key.date *ℤ pos 100) +ℤ pos (r.days * f.refill_percent)

abbrev pub longer_cmp : ℤ → ℤ → Ordering
longer_cmp a b = int_cmp b a

abbrev pub flag_if : Bool → ℕ
flag_if true = 0
flag_if false = 1

-- a claim's date and amounts as numbers, with something that is so or not
abbrev pub numbers_of : Bool → Row → List ℕ
numbers_of is_so r =
    r.key.date.year ∷ r.key.date.month ∷ r.key.date.day ∷ flag_if is_so
    ∷ r.pricing.ingredient_cost ∷ r.pricing.dispensing_fee ∷ r.pricing.deductible ∷ r.pricing.copay ∷ r.pricing.coinsurance ∷ []

-- by date, an own claim of the pharmacy before others, and by amounts
abbrev pub rank : List ℕ → Row → List ℕ
rank provider r = numbers_of (is_same r.key.provider provider) r

-- the order of fills for a pharmacy: one that binds longer first; of those that bind as long by what it may see of them, so that no
-- other pharmacy's name decides
abbrev pub fill_cmp : Figures → List ℕ → Row → Row → Ordering
fill_cmp f provider = by_two longer_cmp (binds_until f) text_cmp (rank provider)

-- of an item and a later one the first in an order
abbrev pub first_of_two : {X : Type 0} → (X → X → Ordering) → X → X → X
first_of_two cmp best x = if is_lt (cmp x best) then x else best

abbrev pub first_with : {X : Type 0} → (X → X → Ordering) → Option X → X → Option X
first_with cmp None x = Some x
first_with cmp (Some best) x = Some (first_of_two cmp best x)

-- of the family's fills, in the order of their keys, that make a pharmacy's billing too soon on a date, the one that binds longest
abbrev pub longest_fill : Figures → List ℕ → Civil → Ledger → BillParts → Option Row
longest_fill f provider date L b =
    fold (first_with (fill_cmp f provider)) None (filter (is_too_soon f date b) (rows_of L b.family))

-- the standing claim that decided: that fill, else the one that the decision names
abbrev pub row_in : Figures → List ℕ → Civil → Ledger → Transaction → Decision → Option Row
row_in f provider date L (Bill b) decision.TooSoon = longest_fill f provider date L b
row_in f provider date L t d = row_of d

-- the row is dated within the period
abbrev pub counts_in : Span → Row → Bool
counts_in period r = is_within period r.key.date

-- the family's rows that count in a period
abbrev pub is_counted : Span → List ℕ → Row → Bool
is_counted period family r = claimed_by family r && counts_in period r

abbrev pub counted_rows : Span → Ledger → List ℕ → List Row
counted_rows period L family = filter (is_counted period family) L.rows

-- those shown of a transaction: of a claim that is paid
abbrev pub counted_for : Span → Ledger → Transaction → Decision → List Row
counted_for period L (Bill b) (decision.Payable p) = counted_rows period L b.family
counted_for period L t d = []
