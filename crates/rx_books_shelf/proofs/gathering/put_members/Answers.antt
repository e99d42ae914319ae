use Rattle.std.proofs.Common.{◌≡◌, ◌+◌, ◌∷◌, drop, map, refl, sym, ap, subst, ◌∙◌, arith}
use Rattle.std.specs.List.{All}
use Rattle.rx_fields.specs.Order.{id_cmp}
use Rattle.rx_sorted.specs.Ascending.{IsAscending}
use Rattle.rx_sorted.proofs.Kept.{IsAscending-drop}
use Rattle.rx_ledger.specs.Members.{member_cmp, member_key}
use Rattle.rx_ledger.proofs.Orders.{member_total}
use Rattle.rx_books_family.specs.FamilyBook.{family_of}
use Rattle.rx_books_shelf.specs.Gathered.{with_own_member}
use Rattle.rx_sorted.proofs.AllSlots.{drop_next, none_left}
use Rattle.rx_books_shelf.proofs.PutBooks.{Past, all_past, all_past_kept, members_put, members_put_all, past_first, rise_with_member}
use Rattle.rx_books_shelf.proofs.gathering.put_members.Goals as goal

pub loop-place-init : goal.loop-place-init
loop-place-init c = record {
  put = refl;
  rise = c.requires.rise;
  past = all_past c.members-members.result.now c.args.books.now.items c.requires.none;
}

pub put_member-requires-clause-past : goal.put_member-requires-clause-past
put_member-requires-clause-past c =
    let ms = c.members-members.result.now in
    let i = c.loop-place.place in
    let m = c.index-members-place.result in
    let here = drop_next i m ms (omega arith) c.index-members-place.is in
    past_first m (drop (i + 1) ms) c.loop-place.books.items
    (subst (λ xs. All (Past xs) c.loop-place.books.items) here c.loop-place.invariant.past)

pub loop-place-preserved : goal.loop-place-preserved
loop-place-preserved c =
    let ms = c.members-members.result.now in
    let i = c.loop-place.place in
    let m = c.index-members-place.result in
    let rest = drop (i + 1) ms in
    let bs = c.loop-place.books.items in
    let here = drop_next i m ms (omega arith) c.index-members-place.is in
    let rise : IsAscending member_cmp member_key ms =
    subst (IsAscending member_cmp member_key) (sym c.members-members.ensures.value) c.members-members.ensures.rise in
    let left : IsAscending member_cmp member_key (m ∷ rest) =
    subst (IsAscending member_cmp member_key) here (IsAscending-drop member_cmp member_total member_key i ms rise) in
    let new : c.put_member.new.books.items ≡ map (with_own_member m) bs = c.in_ok-put_member.ensures in
    let past = subst (λ xs. All (Past xs) bs) here c.loop-place.invariant.past in
    record {
      put = ap (members_put rest) new ∙ ap (λ xs. members_put xs bs) (sym here) ∙ c.loop-place.invariant.put;
      rise = subst (IsAscending id_cmp family_of) (sym new) (rise_with_member m bs c.loop-place.invariant.rise);
      past = subst (All (Past rest)) (sym new) (all_past_kept m rest left.0 bs past);
    }

pub returns : goal.returns
returns c =
    let ms = c.members-members.result.now in
    let L = c.args.open.now.books.ledger in
    let none = none_left c.loop-place.place ms (omega arith) in
    let value : ms ≡ L.members = c.members-members.ensures.value in
    sym (ap (λ xs. members_put xs c.loop-place.books.items) none) ∙ c.loop-place.invariant.put
    ∙ ap (λ xs. members_put xs c.args.books.now.items) value
    ∙ members_put_all L c.members-members.ensures.rise c.args.books.now.items c.requires.none
