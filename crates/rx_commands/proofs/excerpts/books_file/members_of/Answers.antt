-- What is kept stays in order.
use Rattle.std.proofs.Common.{◌≡◌, ◌∙◌, ap, false, true}
use Rattle.rx_sorted.specs.Ascending.{is_ascending}
use Rattle.rx_sorted.proofs.Kept.{IsAscending-filter, is_ascending-from_fact}
use Rattle.rx_ledger.specs.declared.member.Member.{Member}
use Rattle.rx_ledger.specs.Members.{member_cmp, member_key}
use Rattle.rx_ledger.proofs.Orders.{member_total}
use Rattle.rx_commands.specs.ExcerptParts.{is_one_of}
use Rattle.rx_commands.proofs.excerpts.books_file.members_of.Goals as goal

pub unreachable-requires : goal.unreachable-requires
unreachable-requires c =
    let own = λ (m : Member). is_one_of c.args.families.now m.key.family in
    let rise : is_ascending member_cmp member_key c.in_ok-kept.kept.items ≡ true =
    ap (is_ascending member_cmp member_key) c.in_ok-kept.ensures
    ∙ is_ascending-from_fact member_cmp member_total member_key _
    (IsAscending-filter member_cmp member_total member_key own c.args.members.now c.requires) in
    let e : false ≡ true = c.in-Err.ensures.ok ∙ rise in
    cc
