-- what was there and more is put back
use Rattle.std.proofs.Common.{sym, ap, ◌∙◌}
use Rattle.indexmap.specs.IndexMap.{set_value_at}
use Rattle.rx_settle.proofs.Tallied.{insert_entry-new, set_value_at-counted}
use Rattle.rx_settle.proofs.settlement.count.Goals as goal

pub returns-in-Some : goal.returns-in-Some
returns-in-Some c =
    let es = c.args.providers.now.entries in
    ap (set_value_at es c.in-Some.at) c.plus.ensures
    ∙ set_value_at-counted c.args.field c.args.more c.index.result.now es c.in-Some.at (sym c.in-Some.ensures.index) c.index.ensures

pub returns-in_ok-insert-in-None : goal.returns-in_ok-insert-in-None
returns-in_ok-insert-in-None c =
    c.in_ok-insert-in-None.ensures.entries
    ∙ insert_entry-new c.args.field c.args.more c.args.providers.now.entries (sym c.in-None.ensures.found)
