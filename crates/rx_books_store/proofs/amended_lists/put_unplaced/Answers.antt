use Rattle.std.proofs.Common.{◌≡◌, ◌+◌, ◌∷◌, List, Bool, drop, not, sym, ap, ◌∙◌}
use Rattle.std.specs.List.{filter}
use Rattle.std.specs.Option.{is_some}
use Rattle.rx_sorted.specs.Ascending.{put_all}
use Rattle.rx_ledger.specs.declared.member.Member.{Member}
use Rattle.rx_ledger.specs.Members.{member_cmp, member_key}
use Rattle.rx_books_family.specs.Amended.{is_unplaced}
use Rattle.rx_books_store.proofs.WholeBooks.{drop_next, filter_kept, filter_left, none_told}
use Rattle.rx_books_store.proofs.amended_lists.put_unplaced.Goals as goal
use Rattle.rx_books_store.proofs.amended_lists.put_unplaced.Goals.{then-is_none+in_ok-put, else-is_none}

pub loop-member-preserved : goal.loop-member-preserved
loop-member-preserved c =
    let ms = c.args.members.now in
    let i = c.loop-member.member-index in
    let m = c.member-item.result in
    let old = c.loop-member.all in
    let p : Member → Bool = is_unplaced c.args.places.now in
    let rest : List Member = drop (i + 1) ms in
    let here : drop i ms ≡ m ∷ rest = drop_next i m ms c.loop-member-test.true c.member-item.is in
    let left = ap (λ xs. put_all member_cmp member_key old (filter p xs)) (sym here) ∙ c.loop-member.invariant in
    let test : p m ≡ c.is_none.result = ap (λ o. not (is_some o)) (sym c.item_of.ensures)
    ∙ none_told c.item_of.result c.is_none.result c.is_none.ensures in
    elim c.if-is_none.branch [
      | then-is_none+in_ok-put w ↦
          ap (λ xs. put_all member_cmp member_key xs (filter p rest)) (w.all-is ∙ w.in_ok-put.ensures)
          ∙ ap (λ xs. put_all member_cmp member_key old xs) (sym (filter_kept p m rest (test ∙ w.if-is_none.true))) ∙ left
      | else-is_none w ↦
          ap (λ xs. put_all member_cmp member_key xs (filter p rest)) w.all-is
          ∙ ap (λ xs. put_all member_cmp member_key old xs) (sym (filter_left p m rest (test ∙ w.if-is_none.false))) ∙ left
    ]
