use Rattle.std.proofs.Common.{rules}
use Rattle.std.specs.Ordering.{eq_by_cmp}
use Rattle.std.proofs.lemmas.Fn.{dedup_same}
use Rattle.rx_books_shelf.proofs.Ascended.{dedup_has, dedup_rises}
use Rattle.rx_books_shelf.proofs.unique.put_in_order.Goals as goal

pub returns-clause-rise : goal.returns-clause-rise
returns-clause-rise g c =
    let is = dedup_same _ (eq_by_cmp g.K.Ord.cmp) _ (λ x y b f' x' y' k. search rules) _ _ c.dedup_by.ensures.filtered in
    rw is (dedup_rises g.K.Ord.cmp g.met.K.Ord.total c.requires _ _ c.sort_unstable.ensures.permutation
    c.sort_unstable.ensures.sorted)

pub returns-clause-same : goal.returns-clause-same
returns-clause-same g c =
    let is = dedup_same _ (eq_by_cmp g.K.Ord.cmp) _ (λ x y b f' x' y' k. search rules) _ _ c.dedup_by.ensures.filtered in
    rw is (dedup_has g.K.Ord.cmp g.met.K.Ord.total c.requires _ _ c.sort_unstable.ensures.permutation
    c.sort_unstable.ensures.sorted)
