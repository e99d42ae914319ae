use Rattle.std.proofs.Common.{◌-◌, is_lt, nat_cmp, rules}
use Rattle.std.proofs.lemmas.Cmp.{nat_cmp_total}
use Rattle.std.proofs.lemmas.List.Sorted.{IsNonDecreasingBy-from_sort_by_key, IsPermutation-trans, IsStrictWeakOrder-flip}
use Rattle.std.proofs.lemmas.List.Sorted.{answers_always, ranks_by}
use Rattle.rx_report.specs.declared.section.Section.{Section}
use Rattle.rx_report.proofs.Falling.{nets_fall}
use Rattle.rx_report.proofs.net_order.sort_by_net.Goals as goal

pub returns-clause-moved : goal.returns-clause-moved
returns-clause-moved c = IsPermutation-trans _ _ _ c.sort_by.ensures.permutation c.sort_by_key.ensures.permutation

pub returns-clause-order : goal.returns-clause-order
returns-clause-order c =
    nets_fall c.sort_by.new.self.items c.sort_by_key.new.self.items
    (c.in_ok-sort_by.ensures.sorted
    (λ (x : Section) (y : Section). is_lt (nat_cmp (y.tally.paid_out - y.tally.taken_back) (x.tally.paid_out - x.tally.taken_back)))
    (IsStrictWeakOrder-flip _ (ranks_by nat_cmp_total (λ (x : Section). x.tally.paid_out - x.tally.taken_back)))
    (answers_always _ _ _ (λ f a r g h. search rules)))
    (c.sort_by_key.ensures.stable (λ (x : Section). x.tally.taken_back - x.tally.paid_out)
    (answers_always _ _ _ (λ f a r g h. search rules)))
    (IsNonDecreasingBy-from_sort_by_key (λ (x : Section). x.tally.taken_back - x.tally.paid_out) _ c.in_ok-sort_by_key.ensures.sorted
    (λ a r q k. search rules))
