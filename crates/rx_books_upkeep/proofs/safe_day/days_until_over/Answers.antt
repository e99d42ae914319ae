use Rattle.std.proofs.Common.{◌*◌, ◌/◌, ◌%◌, ◌+◌, min, ap, ◌∙◌}
use Rattle.rx_books_upkeep.proofs.SafeDays.{IsRounded, rounded}
use Rattle.rx_books_upkeep.proofs.safe_day.days_until_over.Goals as goal

pub returns : goal.returns
returns c =
    let needed = c.args.days * c.args.percent in
    let is : IsRounded (c.args.days * c.args.percent) c.max.result =
    rounded needed c.div_ceil.result c.max.result
    (c.div_ceil.ensures ∙ ap (λ n. n * c.args.percent / 100 + min 1 (n * c.args.percent % 100)) c.get.ensures.value)
    c.max.ensures in
    record { some = is.some; enough = is.enough; least = is.least }
