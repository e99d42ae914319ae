use Rattle.std.proofs.Common.{◌≡◌, [], ◌∷◌, ◌++◌, ◌+◌, length, take, sym, subst, ap, ◌∙◌, arith}
use Rattle.std.proofs.lemmas.List.{length-take, take_more}
use Rattle.rx_sorted.specs.Ascending.{IsAscending}
use Rattle.rx_sorted.proofs.Kept.{IsAscending-take}
use Rattle.rx_ledger.specs.Members.{member_cmp, member_key}
use Rattle.rx_ledger.proofs.Orders.{member_total}
use Rattle.rx_books_store.specs.BooksText.{families_of}
use Rattle.rx_books_store.proofs.Openings.{AreHomes-push, families_few, homes-more, length-names}
use Rattle.rx_books_store.proofs.opening.homes_of.Goals as goal

pub overflow_cast-home : goal.overflow_cast-home
overflow_cast-home c =
    let ms = c.args.members.now in
    let i = c.loop-member.member-index in
    let m = c.member-item.result in
    let more : take (i + 1) ms ≡ take i ms ++ m ∷ [] =
    take_more ms i m c.loop-member-test.true ∙ ap (λ x. take i ms ++ x ∷ []) (sym c.member-item.is) in
    let rise = subst (IsAscending member_cmp member_key) more (IsAscending-take member_cmp member_total member_key
    (i + 1) ms c.requires.rise) in
    let step = homes-more (take i ms) m rise c.loop-member.families c.loop-member.invariant.names c.last_place.new.families
    c.in_ok-home.ensures.names in
    let few = families_few (take i ms ++ m ∷ []) in
    omega (
      arith,
      ap length step.0,
      length-names c.last_place.new.families,
      few,
      ap length more,
      length-take (i + 1) ms,
      c.in_ok-home.ensures.place,
      c.requires.few,
    )

pub loop-member-preserved : goal.loop-member-preserved
loop-member-preserved c =
    let ms = c.args.members.now in
    let i = c.loop-member.member-index in
    let m = c.member-item.result in
    let more : take (i + 1) ms ≡ take i ms ++ m ∷ [] =
    take_more ms i m c.loop-member-test.true ∙ ap (λ x. take i ms ++ x ∷ []) (sym c.member-item.is) in
    let rise = subst (IsAscending member_cmp member_key) more (IsAscending-take member_cmp member_total member_key
    (i + 1) ms c.requires.rise) in
    let step = homes-more (take i ms) m rise c.loop-member.families c.loop-member.invariant.names c.last_place.new.families
    c.in_ok-home.ensures.names in
    rw (more, c.in_ok-push.ensures.items) (record {
      names = step.0;
      homes = AreHomes-push (take i ms) (families_of (take i ms)) (families_of (take i ms ++ m ∷ [])) c.loop-member.homes.items m
          c.in_ok-home.home c.loop-member.invariant.homes step.1 (rw c.in_ok-home.ensures.place step.2);
    })
