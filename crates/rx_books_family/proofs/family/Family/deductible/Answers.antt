use Rattle.std.proofs.Common.{◌≡◌, get_or, Some, true, false, refl, ap, ◌∙◌}
use Rattle.rx_ledger.specs.Members.{member_cmp, member_key}
use Rattle.rx_ledger.proofs.Orders.{member_total}
use Rattle.rx_sorted.proofs.Places.{contains_key-at, contains_key-gap}
use Rattle.rx_books_family.specs.FamilyBook.{FamilyBook, has_person}
use Rattle.rx_books_family.proofs.Owned.{deductible_read}
use Rattle.rx_books_family.proofs.family.Family.deductible.Goals as goal

pub returns-in-Ok : goal.returns-in-Ok
returns-in-Ok c =
    let inside = c.self.inside in
    let b : FamilyBook = record { family = inside.family; period = inside.period; members = inside.members; rows = inside.rows } in
    let found = c.in-Ok.ensures.found in
    let listed : has_person b c.args.person.now ≡ true =
    contains_key-at member_cmp member_total member_key inside.members _ c.in-Ok.at found in
    let value = ap (λ l. get_or l c.in-Ok.at 0) c.deref.ensures
    ∙ deductible_read b c.self.invariant.own _ _ _ c.self.invariant.totals c.args.person.now c.in-Ok.at found in
    rw (← c.self.view_is) (rw listed (ap Some value))

pub returns-in-Err : goal.returns-in-Err
returns-in-Err c =
    let inside = c.self.inside in
    let b : FamilyBook = record { family = inside.family; period = inside.period; members = inside.members; rows = inside.rows } in
    let absent : has_person b c.args.person.now ≡ false =
    contains_key-gap member_cmp member_total member_key inside.members _ c.in-Err.field-0 c.in-Err.ensures.absent in
    rw (← c.self.view_is) (rw absent refl)
