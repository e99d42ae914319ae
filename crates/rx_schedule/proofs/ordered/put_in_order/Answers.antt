use Rattle.std.proofs.Common.{rules}
use Rattle.std.specs.Ordering.{eq_by_cmp}
use Rattle.std.proofs.lemmas.Fn.{dedup_same}
use Rattle.rx_schedule.proofs.InOrder.{sorted_once}
use Rattle.rx_schedule.proofs.ordered.put_in_order.Goals as goal

pub returns : goal.returns
returns g c =
    let is = dedup_same _ (eq_by_cmp g.K.Ord.cmp) _ (λ x y b f' x' y' k. search rules) _ _ c.dedup_by.ensures.filtered in
    rw is (sorted_once g.K.Ord.cmp g.met.K.Ord.total c.requires _ _ c.sort_unstable.ensures.permutation
    c.sort_unstable.ensures.sorted)
