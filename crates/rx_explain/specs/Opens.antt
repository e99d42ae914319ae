-- Meaning: from when on a billing that is too soon would be so no more.
use Rattle.std.specs.Prelude.{◌≡◌, ◌≤ℤ◌, ◌<ℤ◌, ◌&&◌, Bool, not, true, false, List, Option, Some, None}
use Rattle.std.specs.List.{list_any}
use Rattle.rx_fields.specs.Calendar.{Civil, IsCivil, day_number}
use Rattle.rx_d0_values.specs.declared.bill.BillParts.{BillParts}
use Rattle.rx_d0_values.specs.declared.transaction.Transaction.{Transaction}
use Rattle.rx_d0_values.specs.declared.transaction.Transaction.TheVariants.{Bill}
use Rattle.rx_ledger.specs.declared.decision.Decision.{Decision}
use Rattle.rx_ledger.specs.declared.decision.Decision.TheVariants as decision
use Rattle.rx_ledger.specs.declared.figures.Figures.{Figures}
use Rattle.rx_ledger.specs.declared.row.Row.{Row}
use Rattle.rx_ledger.specs.Decisions.{is_too_soon}
use Rattle.rx_ledger.specs.Ledger.{Ledger}
use Rattle.rx_ledger.specs.Rows.{claimed_by}

-- the row is a claim of the billing's family, and makes it too soon on a date
abbrev pub is_early_fill : Figures → Civil → BillParts → Row → Bool
is_early_fill f date b r = claimed_by b.family r && is_too_soon f date b r

-- none of the rows is one
abbrev pub is_open : Figures → List Row → BillParts → Civil → Bool
is_open f rows b d = not (list_any (is_early_fill f d b) rows)

-- a date of the calendar that is not before another
abbrev pub IsFrom : Civil → Civil → Type 0
IsFrom date d = IsCivil d × (day_number date ≤ℤ day_number d)

-- the first date of the calendar from another on that is open; None exactly where no such date is
abbrev pub IsFirstOpen : Figures → List Row → BillParts → Civil → Option Civil → Type 0
IsFirstOpen f rows b date None = (e : Civil) → IsFrom date e → is_open f rows b e ≡ false
IsFirstOpen f rows b date (Some d) =
    IsFrom date d × (is_open f rows b d ≡ true)
    × ((e : Civil) → IsFrom date e → day_number e <ℤ day_number d → is_open f rows b e ≡ false)

-- the first open date from the date of service on, of a billing that is too soon; there is none of any other transaction
abbrev pub IsOpenFrom : Figures → Civil → Ledger → Transaction → Decision → Option Civil → Type 0
IsOpenFrom f date L (Bill b) decision.TooSoon o = IsFirstOpen f L.rows b date o
IsOpenFrom f date L t d o = o ≡ None
