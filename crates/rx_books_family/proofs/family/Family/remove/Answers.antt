use Rattle.std.proofs.Common.{◌≡◌, None, Some, refl, sym, ◌∙◌}
use Rattle.rx_fields.specs.Order.{key_cmp}
use Rattle.rx_ledger.specs.Rows.{row_key}
use Rattle.rx_ledger.proofs.Orders.{key_total}
use Rattle.rx_sorted.specs.Ascending.{item_at}
use Rattle.rx_sorted.proofs.Edits.{without_absent}
use Rattle.rx_books_family.specs.FamilyBook.{FamilyBook}
use Rattle.rx_ledger.proofs.CountedRows.{no_member}
use Rattle.rx_books_family.proofs.Owned.{changed_figure, deductible_enough, family_enough}
use Rattle.rx_books_family.proofs.Owned.{own-removed, pocket_enough, row_listed, totals-removed}
use Rattle.rx_books_family.proofs.family.Family.remove.Goals as goal

-- ---- no row stands under the key

pub invariant_of-self : goal.invariant_of-self
invariant_of-self c =
    let none : item_at key_cmp row_key c.self.inside.rows c.args.key.now ≡ None = sym c.remove.ensures.value ∙ c.in_err-row.was in
    rw (c.remove.ensures.items, without_absent key_cmp key_total row_key c.self.inside.rows c.args.key.now none)
    c.self.invariant

pub returns-in_err-row-clause-value : goal.returns-in_err-row-clause-value
returns-in_err-row-clause-value c =
    rw (← c.self.view_is) (c.from_residual.ensures ∙ sym c.in_err-row.was ∙ c.remove.ensures.value)

pub returns-in_err-row-clause-rows : goal.returns-in_err-row-clause-rows
returns-in_err-row-clause-rows c = rw (c.remove.ensures.items, ← c.self.view_is) refl

-- ---- the row is taken out

pub place_of_member-at-requires : goal.place_of_member-at-requires
place_of_member-at-requires c =
    let there : item_at key_cmp row_key c.self.inside.rows c.args.key.now ≡ Some c.in_ok-row.row =
    sym c.remove.ensures.value ∙ c.in_ok-row.was in
    rw c.member.ensures (row_listed _ c.args.key.now c.in_ok-row.row c.self.invariant.own there)

pub overflow_sub-deref_mut : goal.overflow_sub-deref_mut
overflow_sub-deref_mut c =
    let there : item_at key_cmp row_key c.self.inside.rows c.args.key.now ≡ Some c.in_ok-row.row =
    sym c.remove.ensures.value ∙ c.in_ok-row.was in
    let own = c.self.invariant.own in
    let listed = row_listed _ c.args.key.now c.in_ok-row.row own there in
    let at = c.place_of_member-at.result in
    let is_at = rw c.member.ensures at c.place_of_member-at.ensures in
    rw (c.deref_mut.ensures.value, c.counted_in-counted.ensures.deductible)
    (deductible_enough _ own _ _ _ c.self.invariant.totals c.in_ok-row.row listed at is_at no_member c.args.key.now there)

pub overflow_sub-self : goal.overflow_sub-self
overflow_sub-self c =
    let there : item_at key_cmp row_key c.self.inside.rows c.args.key.now ≡ Some c.in_ok-row.row =
    sym c.remove.ensures.value ∙ c.in_ok-row.was in
    let own = c.self.invariant.own in
    let listed = row_listed _ c.args.key.now c.in_ok-row.row own there in
    let at = c.place_of_member-at.result in
    let is_at = rw c.member.ensures at c.place_of_member-at.ensures in
    rw c.counted_in-counted.ensures.out_of_pocket
    (pocket_enough _ own _ _ _ c.self.invariant.totals c.in_ok-row.row listed at is_at no_member c.args.key.now there)

pub overflow_sub-self-2 : goal.overflow_sub-self-2
overflow_sub-self-2 c =
    let there : item_at key_cmp row_key c.self.inside.rows c.args.key.now ≡ Some c.in_ok-row.row =
    sym c.remove.ensures.value ∙ c.in_ok-row.was in
    let own = c.self.invariant.own in
    let listed = row_listed _ c.args.key.now c.in_ok-row.row own there in
    let at = c.place_of_member-at.result in
    let is_at = rw c.member.ensures at c.place_of_member-at.ensures in
    rw c.counted_in-counted.ensures.deductible
    (family_enough _ own _ _ _ c.self.invariant.totals c.in_ok-row.row listed at is_at no_member c.args.key.now there)

pub invariant_of-self-2 : goal.invariant_of-self-2
invariant_of-self-2 c =
    let there : item_at key_cmp row_key c.self.inside.rows c.args.key.now ≡ Some c.in_ok-row.row =
    sym c.remove.ensures.value ∙ c.in_ok-row.was in
    let own = c.self.invariant.own in
    let listed = row_listed _ c.args.key.now c.in_ok-row.row own there in
    let at = c.place_of_member-at.result in
    let is_at = rw c.member.ensures at c.place_of_member-at.ensures in
    let inside = c.self.inside in
    let b : FamilyBook = record { family = inside.family; period = inside.period; members = inside.members; rows = inside.rows } in
    let back = changed_figure b own inside.deductibles.items _ _ c.self.invariant.totals at in
    rw (
      c.remove.ensures.items,
      c.deref_mut.ensures.value,
      back,
      c.counted_in-counted.ensures.deductible,
      c.counted_in-counted.ensures.out_of_pocket,
    )
    (record {
      own = own-removed b c.args.key.now c.in_ok-row.row own there;
      totals = totals-removed b own _ _ _ c.self.invariant.totals c.in_ok-row.row listed at is_at no_member c.args.key.now there;
    })

pub returns-clause-value : goal.returns-clause-value
returns-clause-value c =
    let there : item_at key_cmp row_key c.self.inside.rows c.args.key.now ≡ Some c.in_ok-row.row =
    sym c.remove.ensures.value ∙ c.in_ok-row.was in
    rw (← c.self.view_is) (sym there)

pub returns-clause-rows : goal.returns-clause-rows
returns-clause-rows c = rw (c.remove.ensures.items, ← c.self.view_is) refl

pub returns-in_err-row-clause-within : goal.returns-in_err-row-clause-within
returns-in_err-row-clause-within c = let kept = invariant_of-self c in kept.own

pub returns-clause-within : goal.returns-clause-within
returns-clause-within c = let kept = invariant_of-self-2 c in kept.own
