use Rattle.std.proofs.Common.{◌≡◌, true, false, ◌∙◌}
use Rattle.std.proofs.lemmas.Bool.{and_from}
use Rattle.rx_fields.specs.Order.{id_cmp, key_cmp}
use Rattle.rx_ledger.proofs.Orders.{id_total, key_total}
use Rattle.rx_sorted.proofs.Kept.{is_ascending-from_fact}
use Rattle.rx_sorted.specs.Ascending.{itself}
use Rattle.rx_schedule.proofs.naming.made_of.Goals as goal

pub unreachable-requires : goal.unreachable-requires
unreachable-requires c =
    let keys = is_ascending-from_fact key_cmp key_total itself c.args.keys.items c.requires.keys in
    let families = is_ascending-from_fact id_cmp id_total itself c.args.families.items c.requires.families in
    let e : false ≡ true = c.in-None.ensures.accepts ∙ and_from _ _ keys families in
    cc
