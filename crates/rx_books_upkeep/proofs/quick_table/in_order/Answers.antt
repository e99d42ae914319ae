use Rattle.std.proofs.Common.{subst, sym}
use Rattle.std.specs.List.Sorted.{IsPermutation}
use Rattle.rx_sorted.specs.Ascending.{IsAscending}
use Rattle.rx_sorted.proofs.Kept.{IsAscending-from_test}
use Rattle.rx_ledger.specs.Members.{member_cmp, member_key}
use Rattle.rx_ledger.proofs.Orders.{member_total}
use Rattle.rx_books_upkeep.proofs.quick_table.in_order.Goals as goal

pub returns-in-Ok-clause-all : goal.returns-in-Ok-clause-all
returns-in-Ok-clause-all c =
    subst (λ list. IsPermutation c.args.members.items list) (sym c.in-Ok.ensures.value) c.sort_by.ensures.permutation

pub returns-in-Ok-clause-rise : goal.returns-in-Ok-clause-rise
returns-in-Ok-clause-rise c =
    subst (IsAscending member_cmp member_key) (sym c.in-Ok.ensures.value)
    (IsAscending-from_test member_cmp member_total member_key c.sort_by.new.self.items (sym c.in-Ok.ensures.ok))
