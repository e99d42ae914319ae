use Rattle.std.proofs.Common.{Some, sym, ap, ◌∙◌}
use Rattle.rx_sorted.proofs.Places.{item_at-at, set-at, IsAscending-set}
use Rattle.rx_sorted.proofs.list.Ascending.replace_at.Goals as goal

pub invariant_of-self : goal.invariant_of-self
invariant_of-self g c =
    let at = rw (← c.self.view_is) at c.requires in
    rw c.replace.ensures.after (IsAscending-set g.T.Key.Ord.cmp g.met.T.Key.Ord.total g.T.Keyed.key_of
    c.self.inside.items.items c.args.item c.args.place c.self.invariant at)

pub returns-clause-value : goal.returns-clause-value
returns-clause-value g c =
    let ascends = rw c.self.view_is at c.self.invariant in
    let read = rw c.self.view_is at c.index_mut.ensures.value in
    let there = item_at-at g.T.Key.Ord.cmp g.met.T.Key.Ord.total g.T.Keyed.key_of c.args.self.now
    (g.T.Keyed.key_of c.args.item) c.args.place c.index_mut.result.now ascends c.requires in
    there ∙ ap Some (sym (c.replace.ensures.value ∙ read))

pub returns-clause-items : goal.returns-clause-items
returns-clause-items g c =
    let ascends = rw c.self.view_is at c.self.invariant in
    rw (c.replace.ensures.after, c.self.view_is)
    (set-at g.T.Key.Ord.cmp g.met.T.Key.Ord.total g.T.Keyed.key_of c.args.self.now c.args.item c.args.place ascends
    c.requires)
