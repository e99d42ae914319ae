use Rattle.std.proofs.Common.{◌≡◌, false, true, refl, arith}
use Rattle.rx_fields.specs.Order.{key_cmp}
use Rattle.rx_ledger.specs.Ledger.{is_listed, is_taken}
use Rattle.rx_ledger.specs.Rows.{member_of_row, row_key}
use Rattle.rx_ledger.proofs.Orders.{key_total}
use Rattle.rx_ledger.proofs.Refusals.{free_is_not_there}
use Rattle.rx_sorted.specs.Ascending.{contains_key}
use Rattle.rx_sorted.proofs.LookUps.{item_at-free}
use Rattle.rx_books_family.specs.FamilyBook.{FamilyBook, own_ledger}
use Rattle.rx_ledger.proofs.CountedRows.{counted-small, counted_deductible-small, no_member}
use Rattle.rx_books_family.proofs.Owned.{changed_figure, deductible_room, family_room, own-added, pocket_room, totals-added}
use Rattle.rx_books_family.proofs.family.Family.add.Goals as goal

pub unreachable-requires : goal.unreachable-requires
unreachable-requires c =
    let free = rw (← c.self.view_is) at c.requires.free in
    free_is_not_there c.insert.result c.in-Err-There.field-0 c.in-Err-There.field-0-0
    (contains_key key_cmp row_key c.self.inside.rows c.args.row.key) c.insert.ensures.there free c.in-Err-There.is
    c.in-Err-There.field-0-is

pub overflow_add-deref_mut : goal.overflow_add-deref_mut
overflow_add-deref_mut c =
    let low = deductible_room _ c.self.invariant.own _ _ _ c.self.invariant.totals c.place_of_member-at.result no_member
    c.place_of_member-at.ensures.in_range in
    let more = counted_deductible-small c.self.inside.period c.args.row c.counted_in-counted.ensures.small in
    rw c.deref_mut.ensures.value (omega (arith, low, more, c.counted_in-counted.ensures.deductible))

pub overflow_add-self : goal.overflow_add-self
overflow_add-self c =
    omega (
      arith,
      pocket_room _ c.self.invariant.own _ _ _ c.self.invariant.totals,
      c.counted_in-counted.ensures.out_of_pocket,
      counted-small c.self.inside.period c.args.row c.counted_in-counted.ensures.small,
    )

pub overflow_add-self-2 : goal.overflow_add-self-2
overflow_add-self-2 c =
    omega (
      arith,
      family_room _ c.self.invariant.own _ _ _ c.self.invariant.totals,
      c.counted_in-counted.ensures.deductible,
      counted_deductible-small c.self.inside.period c.args.row c.counted_in-counted.ensures.small,
    )

pub invariant_of-self-2 : goal.invariant_of-self-2
invariant_of-self-2 c =
    let inside = c.self.inside in
    let b : FamilyBook = record { family = inside.family; period = inside.period; members = inside.members; rows = inside.rows } in
    let own = c.self.invariant.own in
    let at = c.place_of_member-at.result in
    let is_at = rw c.member.ensures at c.place_of_member-at.ensures in
    let free : is_taken (own_ledger b) c.args.row.key ≡ false = rw (← c.self.view_is) at c.requires.free in
    let listed : is_listed (own_ledger b) (member_of_row c.args.row) ≡ true = rw (← c.self.view_is) at c.requires.listed in
    let none = item_at-free key_cmp key_total row_key inside.rows c.args.row.key free in
    let back = changed_figure b own inside.deductibles.items _ _ c.self.invariant.totals at in
    let few = rw c.in-Ok.ensures.ok at c.insert.ensures.small in
    rw (
      c.in-Ok.ensures.ok,
      c.deref_mut.ensures.value,
      back,
      c.counted_in-counted.ensures.deductible,
      c.counted_in-counted.ensures.out_of_pocket,
    )
    (record {
      own = own-added b c.args.row own listed c.counted_in-counted.ensures.small few;
      totals = totals-added b own _ _ _ c.self.invariant.totals c.args.row listed at is_at no_member none;
    })

pub returns-clause-ok : goal.returns-clause-ok
returns-clause-ok c = rw (c.in-Ok.ensures.ok, ← c.self.view_is) refl

pub returns-clause-within : goal.returns-clause-within
returns-clause-within c = let kept = invariant_of-self-2 c in kept.own
