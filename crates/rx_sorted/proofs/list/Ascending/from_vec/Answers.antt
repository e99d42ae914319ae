use Rattle.std.proofs.Common.{sym}
use Rattle.rx_sorted.proofs.Kept.{IsAscending-from_test}
use Rattle.rx_sorted.proofs.list.Ascending.from_vec.Goals as goal

pub invariant_of-result : goal.invariant_of-result
invariant_of-result g c =
    IsAscending-from_test g.T.Key.Ord.cmp g.met.T.Key.Ord.total g.T.Keyed.key_of c.args.items.items
    (rw c.deref.ensures.value at (sym c.if-is_ascending.ensures))
