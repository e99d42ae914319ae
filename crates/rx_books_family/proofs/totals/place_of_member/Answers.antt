use Rattle.std.proofs.Common.{◌≡◌, false, true, sym, ◌∙◌}
use Rattle.rx_ledger.specs.Members.{member_cmp, member_key}
use Rattle.rx_ledger.proofs.Orders.{member_total}
use Rattle.rx_sorted.proofs.Places.{contains_key-gap}
use Rattle.rx_books_family.proofs.totals.place_of_member.Goals as goal

pub unreachable-requires : goal.unreachable-requires
unreachable-requires c =
    let none = contains_key-gap member_cmp member_total member_key c.args.members.now c.args.key.now c.in-Err.field-0
    c.in-Err.ensures.absent in
    let e : false ≡ true = sym none ∙ c.requires in
    cc
