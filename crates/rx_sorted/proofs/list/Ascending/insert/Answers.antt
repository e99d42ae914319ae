use Rattle.std.proofs.Common.{sym}
use Rattle.std.proofs.lemmas.Result.{err_from_is_err_and}
use Rattle.rx_sorted.proofs.Places.{contains_key-at, contains_key-gap, insert-gap, IsAscending-insert}
use Rattle.rx_sorted.proofs.list.Ascending.insert.Goals as goal

pub returns-in-Ok-clause-there : goal.returns-in-Ok-clause-there
returns-in-Ok-clause-there g c =
    let found = rw c.key.ensures at c.in-Ok.ensures.found in
    sym (contains_key-at g.T.Key.Ord.cmp g.met.T.Key.Ord.total g.T.Keyed.key_of c.args.self.now
    (g.T.Keyed.key_of c.args.item) c.in-Ok.field-0 found)

-- the key is free, and there is no memory
pub returns-in_err-insert-in-Err-clause-there : goal.returns-in_err-insert-in-Err-clause-there
returns-in_err-insert-in-Err-clause-there g c =
    let gap = rw c.key.ensures at c.in-Err.ensures.absent in
    let error = err_from_is_err_and c.from_residual.result c.from_residual.ensures.1 in
    rw (error.1, error.2) (sym (contains_key-gap g.T.Key.Ord.cmp g.met.T.Key.Ord.total g.T.Keyed.key_of
    c.args.self.now (g.T.Keyed.key_of c.args.item) c.in-Err.at gap))

-- the key is free, and the item goes into its gap
pub invariant_of-self-in-Err : goal.invariant_of-self-in-Err
invariant_of-self-in-Err g c =
    let gap = rw (← c.self.view_is, c.key.ensures) at c.in-Err.ensures.absent in
    rw c.in_ok-insert-in-Err.ensures.items
    (IsAscending-insert g.T.Key.Ord.cmp g.met.T.Key.Ord.total g.T.Keyed.key_of c.self.inside.items.items
    c.args.item c.in-Err.at c.self.invariant gap)

pub returns-in_ok-insert-in-Err-clause-ok : goal.returns-in_ok-insert-in-Err-clause-ok
returns-in_ok-insert-in-Err-clause-ok g c =
    let gap = rw c.key.ensures at c.in-Err.ensures.absent in
    rw (c.in_ok-insert-in-Err.ensures.items, c.self.view_is)
    (insert-gap g.T.Key.Ord.cmp g.met.T.Key.Ord.total g.T.Keyed.key_of c.args.self.now c.args.item c.in-Err.at gap)

pub returns-in_ok-insert-in-Err-clause-there : goal.returns-in_ok-insert-in-Err-clause-there
returns-in_ok-insert-in-Err-clause-there g c =
    let gap = rw c.key.ensures at c.in-Err.ensures.absent in
    sym (contains_key-gap g.T.Key.Ord.cmp g.met.T.Key.Ord.total g.T.Keyed.key_of c.args.self.now
    (g.T.Keyed.key_of c.args.item) c.in-Err.at gap)
