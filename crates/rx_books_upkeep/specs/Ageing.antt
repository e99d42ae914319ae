-- Meaning: claims that are aged out of books, and the days on which they no longer matter.
use Rattle.std.specs.Prelude.{◌≡◌, ◌&&◌, ℕ, ◌*◌, Bool, true, not, filter, List, int_lt, ◌-ℤ◌, ◌*ℤ◌, ◌≤ℤ◌, pos}
use Rattle.std.specs.List.{list_all}
use Rattle.std.specs.Ordering.{is_lt}
use Rattle.rx_d0_values.specs.declared.transaction.Transaction.{Transaction}
use Rattle.rx_d0_values.specs.declared.transaction.Transaction.TheVariants.{Bill, Reverse, Faulty}
use Rattle.rx_d0_values.specs.declared.transmission.Heard.{Heard as HeardRecord}
use Rattle.rx_fields.specs.Calendar.{Civil, IsCivil, day_cmp, day_number}
use Rattle.rx_ledger.specs.declared.row.Row.{Row}
use Rattle.rx_ledger.specs.Ledger.{Ledger}

-- the claim is dated before the day
abbrev pub is_before : Civil → Row → Bool
is_before day r = is_lt (day_cmp r.key.date day)

-- the claims that leave, and the ledger without them, each in its order
abbrev pub dropped : Civil → List Row → List Row
dropped day rows = filter (is_before day) rows

abbrev pub aged : Civil → Ledger → Ledger
aged day L = record L { rows = filter (λ r. not (is_before day r)) L.rows }

-- on the day the claim is over at this percentage: it is dated before, so that nothing dated on the day names it, and enough
-- of its days have passed, so that no fill on the day is too soon by it
abbrev pub is_over : ℕ → Civil → Row → Bool
is_over percent day r =
    let passed = day_number day -ℤ day_number r.key.date in
    int_lt (pos 0) passed && not (int_lt (passed *ℤ pos 100) (pos (r.days * percent)))

-- the date is one of the calendar, and not before the day
pub record IsFrom (day date : Civil) : Type 0 where
  pub civil : IsCivil date
  pub from : day_number day ≤ℤ day_number date

-- from the day on, each of these claims is over
abbrev pub IsSafe : ℕ → List Row → Civil → Type 0
IsSafe percent rows day = (date : Civil) → IsFrom day date → list_all (is_over percent date) rows ≡ true

-- the day is the least such one
pub record IsFirstSafe (percent : ℕ) (rows : List Row) (day : Civil) : Type 0 where
  pub safe : IsSafe percent rows day
  pub least : (other : Civil) → IsCivil other → IsSafe percent rows other → day_number day ≤ℤ day_number other

-- a billing or a reversal is dated from the day on
abbrev pub IsDatedFrom : Civil → HeardRecord → Transaction → Type 0
IsDatedFrom day h (Bill b) = IsFrom day h.date
IsDatedFrom day h (Reverse v) = IsFrom day h.date
IsDatedFrom day h (Faulty f) = Unit {0}
