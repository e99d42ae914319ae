use Rattle.std.proofs.Common.{Ok, sym, ap, ◌∙◌}
use Rattle.std.specs.Option.{ok_or}
use Rattle.rx_sorted.proofs.Places.{item_at-at, item_at-gap, set-at, IsAscending-set}
use Rattle.rx_sorted.proofs.list.Ascending.replace.Goals as goal

pub invariant_of-self : goal.invariant_of-self
invariant_of-self g c =
    let at = rw (← c.self.view_is, c.key.ensures) at c.in-Ok.ensures.found in
    rw c.replace.ensures.after (IsAscending-set g.T.Key.Ord.cmp g.met.T.Key.Ord.total g.T.Keyed.key_of
    c.self.inside.items.items c.args.item c.in-Ok.at c.self.invariant at)

pub returns-in-Ok-clause-value : goal.returns-in-Ok-clause-value
returns-in-Ok-clause-value g c =
    let ascends = rw c.self.view_is at c.self.invariant in
    let read = rw c.self.view_is at c.index_mut.ensures.value in
    let at = rw c.key.ensures at c.in-Ok.ensures.found in
    let there = item_at-at g.T.Key.Ord.cmp g.met.T.Key.Ord.total g.T.Keyed.key_of c.args.self.now
    (g.T.Keyed.key_of c.args.item) c.in-Ok.at c.index_mut.result.now ascends at in
    ap Ok (c.replace.ensures.value ∙ read) ∙ sym (ap (λ o. ok_or o c.args.item) there)

pub returns-in-Ok-clause-ok : goal.returns-in-Ok-clause-ok
returns-in-Ok-clause-ok g c =
    let ascends = rw c.self.view_is at c.self.invariant in
    let at = rw c.key.ensures at c.in-Ok.ensures.found in
    rw (c.replace.ensures.after, c.self.view_is)
    (set-at g.T.Key.Ord.cmp g.met.T.Key.Ord.total g.T.Keyed.key_of c.args.self.now c.args.item c.in-Ok.at ascends at)

pub returns-in-Err-clause-value : goal.returns-in-Err-clause-value
returns-in-Err-clause-value g c =
    let gap = rw c.key.ensures at c.in-Err.ensures.absent in
    sym (ap (λ o. ok_or o c.args.item) (item_at-gap g.T.Key.Ord.cmp g.met.T.Key.Ord.total g.T.Keyed.key_of
    c.args.self.now (g.T.Keyed.key_of c.args.item) c.in-Err.field-0 gap))
