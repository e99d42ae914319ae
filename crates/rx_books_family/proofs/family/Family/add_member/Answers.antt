use Rattle.std.proofs.Common.{◌≡◌, [], ◌∷◌, ◌++◌, refl, ap, ◌∙◌}
use Rattle.rx_ledger.specs.Members.{member_cmp, member_key}
use Rattle.rx_ledger.proofs.Orders.{member_total}
use Rattle.rx_sorted.proofs.Edits.{put-past}
use Rattle.rx_books_family.specs.FamilyBook.{FamilyBook}
use Rattle.rx_books_family.proofs.Owned.{own-member, totals-member}
use Rattle.rx_books_family.proofs.family.Family.add_member.Goals as goal

pub push-requires : goal.push-requires
push-requires c = rw (← c.self.view_is) at c.requires.past

pub invariant_of-self-2 : goal.invariant_of-self-2
invariant_of-self-2 c =
    let inside = c.self.inside in
    let b : FamilyBook = record { family = inside.family; period = inside.period; members = inside.members; rows = inside.rows } in
    let own = c.self.invariant.own in
    let past = rw (← c.self.view_is) at c.requires.past in
    let of_family = rw (← c.self.view_is) at c.requires.own in
    let pushed : c.push_reserved.new.self.items ≡ inside.deductibles.items ++ 0 ∷ [] =
    c.push_reserved.ensures.items ∙ ap (λ l. l ++ 0 ∷ []) c.reserve.ensures.items in
    rw (c.in_ok-push.ensures.ok, ← put-past member_cmp member_total member_key inside.members c.args.member past, pushed)
    (record {
      own = own-member b own c.args.member of_family past;
      totals = totals-member b own c.args.member of_family past _ _ _ c.self.invariant.totals;
    })

pub returns-clause-ok : goal.returns-clause-ok
returns-clause-ok c =
    let past = rw (← c.self.view_is) at c.requires.past in
    rw (
      c.in_ok-push.ensures.ok,
      ← put-past member_cmp member_total member_key c.self.inside.members c.args.member past,
      ← c.self.view_is,
    ) refl

pub returns-clause-within : goal.returns-clause-within
returns-clause-within c = let kept = invariant_of-self-2 c in kept.own
