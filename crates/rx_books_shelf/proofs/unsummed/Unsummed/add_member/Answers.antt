use Rattle.std.proofs.Common.{refl}
use Rattle.rx_ledger.specs.Members.{member_cmp, member_key}
use Rattle.rx_ledger.proofs.Orders.{member_total}
use Rattle.rx_sorted.proofs.Edits.{put-past}
use Rattle.rx_books_family.specs.FamilyBook.{FamilyBook}
use Rattle.rx_books_family.proofs.Owned.{own-member}
use Rattle.rx_books_shelf.proofs.unsummed.Unsummed.add_member.Goals as goal

pub push-requires : goal.push-requires
push-requires c = rw (← c.self.view_is) at c.requires.past

pub invariant_of-self-2 : goal.invariant_of-self-2
invariant_of-self-2 c =
    let inside = c.self.inside in
    let b : FamilyBook = record { family = inside.family; period = inside.period; members = inside.members; rows = inside.rows } in
    let past = rw (← c.self.view_is) at c.requires.past in
    let of_family = rw (← c.self.view_is) at c.requires.own in
    rw (c.in_ok-push.ensures.ok, ← put-past member_cmp member_total member_key inside.members c.args.member past)
    (own-member b c.self.invariant c.args.member of_family past)

pub returns-clause-ok : goal.returns-clause-ok
returns-clause-ok c =
    let past = rw (← c.self.view_is) at c.requires.past in
    rw (
      c.in_ok-push.ensures.ok,
      ← put-past member_cmp member_total member_key c.self.inside.members c.args.member past,
      ← c.self.view_is,
    ) refl
