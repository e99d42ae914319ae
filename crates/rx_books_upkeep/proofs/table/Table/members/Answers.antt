use Rattle.std.proofs.Common.{◌≡◌, false, true, map, ap, ◌∙◌, append-nil}
use Rattle.rx_sorted.specs.Ascending.{is_ascending}
use Rattle.rx_ledger.specs.Members.{member_cmp, member_key}
use Rattle.rx_books_upkeep.specs.Table.{member_at}
use Rattle.rx_books_upkeep.proofs.TableSteps.{members_rise}
use Rattle.rx_books_upkeep.proofs.table.Table.members.Goals as goal

pub unreachable-requires : goal.unreachable-requires
unreachable-requires c =
    let whole : c.loop-key.list.items ≡ map member_at c.self.inside.listed.entries =
    (rw (c.in-None.ensures.steps.0, append-nil) at c.loop-key.invariant)
    ∙ ap (map member_at) (c.into_iter-key-iterator.ensures.into_iter_gives ∙ c.iter-key-items.ensures.rest) in
    let rise : is_ascending member_cmp member_key c.loop-key.list.items ≡ true =
    ap (is_ascending member_cmp member_key) whole ∙ members_rise c.self.inside.listed.entries c.iter-key-items.ensures.ordered in
    let e : false ≡ true = c.in-Err.ensures.ok ∙ rise in
    cc
