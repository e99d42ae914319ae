use Rattle.std.proofs.Common.{◌≡◌, Some, None, sym, ap, subst, ◌∙◌}
use Rattle.rx_sorted.specs.Ascending.{IsAscending, item_at}
use Rattle.rx_sorted.proofs.LookUps.{item_at-from_contains}
use Rattle.rx_sorted.proofs.Places.{item_at-gap}
use Rattle.rx_ledger.specs.declared.member.Member.{Member}
use Rattle.rx_ledger.specs.declared.member.MemberKey.{MemberKey}
use Rattle.rx_ledger.specs.Members.{member_cmp, member_key}
use Rattle.rx_ledger.specs.Sums.{deductible}
use Rattle.rx_ledger.proofs.Orders.{member_total}
use Rattle.rx_books_shelf.proofs.MemberPlaces.{member_at_key}
use Rattle.rx_books_shelf.proofs.summing.deductible_near.Goals as goal

pub place_near-requires : goal.place_near-requires
place_near-requires c = subst (IsAscending member_cmp member_key) (sym c.members.ensures.value) c.members.ensures.rise

pub unreachable-requires : goal.unreachable-requires
unreachable-requires c =
    let m : Member = c.args.member.now in
    let ms = c.args.books.now.books.ledger.members in
    let absent = rw c.members.ensures.value at c.in-Err.ensures.absent in
    let gap : item_at member_cmp member_key ms m.key ≡ None =
    item_at-gap member_cmp member_total member_key ms m.key c.in-Err.field-0 absent in
    let found : item_at member_cmp member_key ms m.key ≡ Some m =
    item_at-from_contains member_cmp member_total member_key ms m c.members.ensures.rise c.requires in
    cc

pub returns : goal.returns
returns c =
    let m : Member = c.args.member.now in
    let b = c.args.books.now.books in
    let found = rw c.members.ensures.value at c.in-Ok.ensures.found in
    let listed = member_at_key b.ledger.members m.key c.in-Ok.at found in
    let value = rw listed.at at c.deductible_at.ensures in
    value ∙ ap (λ (k : MemberKey). deductible b.period b.ledger k.family k.person) listed.keyed
