-- The longest of the family's fills among the rows is the longest among the ledger's.
use Rattle.std.proofs.Common.{◌∙◌, ap}
use Rattle.std.specs.Prelude.{None, filter}
use Rattle.std.specs.List.{fold}
use Rattle.rx_ledger.specs.Decisions.{is_too_soon}
use Rattle.rx_explain.specs.Shown.{fill_cmp, first_with}
use Rattle.rx_explain.proofs.facts.standing.Goals as goal

pub returns-in-Bill-TooSoon : goal.returns-in-Bill-TooSoon
returns-in-Bill-TooSoon c L has =
    let b = c.in-Bill-TooSoon.bill in
    let family = rw c.in-Bill-TooSoon.is-0 at has in
    rw (c.in-Bill-TooSoon.is-0, c.in-Bill-TooSoon.is-1)
    (c.longest_fill.ensures
    ∙ ap (λ rows. fold (first_with (fill_cmp c.args.figures.now c.args.heard.now.provider)) None
    (filter (is_too_soon c.args.figures.now c.args.heard.now.date b) rows)) family)
