use Rattle.std.proofs.Common.{Some, ap, ◌∙◌}
use Rattle.rx_ledger.specs.declared.member.MemberKey.{MemberKey}
use Rattle.rx_ledger.specs.Rows.{member_of_row}
use Rattle.rx_books_shelf.proofs.MemberPlaces.{member_at_key}
use Rattle.rx_books_shelf.proofs.closing.fill_slot.Goals as goal

pub add-requires-clause-family : goal.add-requires-clause-family
add-requires-clause-family c =
    let listed = member_at_key c.args.books.now.books.ledger.members (member_of_row c.args.row) c.in-Some.member
    c.in-Some.ensures.found in
    rw listed.at at c.home_of-family.ensures ∙ ap (λ (k : MemberKey). Some k.family) listed.keyed
