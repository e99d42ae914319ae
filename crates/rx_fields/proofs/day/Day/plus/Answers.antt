use Rattle.std.proofs.Common.{◌≡◌, ◌+ℤ◌, ◌≤ℤ◌, pos, arith, ◌∙◌, ap, refl, true, false}
use Rattle.jiff_core.specs.Calendar.{days_from_civil}
use Rattle.jiff_core.specs.Date.{epoch_day}
use Rattle.jiff_core.proofs.SignedLemmas.{signed_arith}
use Rattle.rx_fields.specs.Calendar.{day_number}
use Rattle.rx_fields.proofs.DayNumbers.{no_date, not_after, not_negative, same_days, too_large, year_fits, year_is}
use Rattle.rx_fields.proofs.day.Day.plus.Goals as goal

-- After the last day there is none.
pub returns-in_default-clause-none : goal.returns-in_default-clause-none
returns-in_default-clause-none c =
    (λ e. rw c.date-date.ensures.number at (too_large c.date-date.result c.args.days c.in_default.ensures), λ after. refl)

pub returns-in-Err-clause-none : goal.returns-in-Err-clause-none
returns-in-Err-clause-none c =
    let none = rw (same_days _ c.args.days c.in-Ok.ensures) at c.in-Err.ensures.succeeds.1 in
    (λ e. rw c.date-date.ensures.number at (no_date c.date-date.result c.args.days (λ is. let no = none is in cc)), λ after. refl)

later_number : (c : goal.After-struct_told-1) → epoch_day c.in-Ok-checked_add.later ≡ day_number c.args.self.now +ℤ pos c.args.days
later_number c =
    c.in-Ok-checked_add.ensures.value
    ∙ ap (λ z. epoch_day c.date-date.result +ℤ z) (same_days _ c.args.days c.in-Ok.ensures)
    ∙ ap (λ z. z +ℤ pos c.args.days) c.date-date.ensures.number

later_year : (c : goal.After-struct_told-1) → pos 0 ≤ℤ c.in-Ok-checked_add.later.year
later_year c =
    not_negative c.date-date.result c.in-Ok-checked_add.later c.date-date.ensures.year
    (omega (arith, signed_arith, later_number c, c.date-date.ensures.number))

pub overflow_cast-result : goal.overflow_cast-result
overflow_cast-result c = year_fits c.in-Ok-checked_add.later (later_year c)

pub returns-in-Ok-checked_add-clause-value : goal.returns-in-Ok-checked_add-clause-value
returns-in-Ok-checked_add-clause-value c =
    ap (λ y. days_from_civil y c.in-Ok-checked_add.later.month c.in-Ok-checked_add.later.day)
    (year_is c.in-Ok-checked_add.later (later_year c)) ∙ later_number c

pub returns-in-Ok-checked_add-clause-none : goal.returns-in-Ok-checked_add-clause-none
returns-in-Ok-checked_add-clause-none c =
    (λ e. absurd (let no : true ≡ false = e in cc), λ after. absurd (not_after c.in-Ok-checked_add.later _ (later_number c) after))
