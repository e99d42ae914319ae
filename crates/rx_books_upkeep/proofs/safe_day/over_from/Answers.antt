use Rattle.rx_books_upkeep.proofs.SafeDays.{over_from_is}
use Rattle.rx_books_upkeep.proofs.safe_day.over_from.Goals as goal

pub returns : goal.returns
returns c =
    over_from_is c.args.percent c.args.row.now c.days_until_over.result c.plus.result c.plus.ensures.value c.plus.ensures.none
    c.days_until_over.ensures.some c.days_until_over.ensures.enough c.days_until_over.ensures.least
