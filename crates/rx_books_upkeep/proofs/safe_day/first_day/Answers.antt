use Rattle.std.proofs.Common.{◌≡◌, ◌∙◌}
use Rattle.std.specs.Prelude.{Ok}
use Rattle.rx_fields.specs.Calendar.{day_number}
use Rattle.rx_books_upkeep.proofs.SafeDays.{first_date, first_read, from_first, le_true}
use Rattle.rx_books_upkeep.proofs.safe_day.first_day.Goals as goal

pub returns : goal.returns
returns c day civil =
    let read : Ok c.in-Ok.day ≡ Ok first_date = c.in-Ok.ensures ∙ first_read in
    let same : c.in-Ok.day ≡ first_date = cc in
    rw same (le_true (day_number first_date) (day_number day) (from_first day civil))
