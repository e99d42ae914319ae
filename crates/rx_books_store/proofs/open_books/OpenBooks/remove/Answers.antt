use Rattle.std.proofs.Common.{◌≡◌, ◌<◌, length, Some, sym, ap, ◌∙◌, arith}
use Rattle.std.specs.Prelude.{IfSome, slice_get, true}
use Rattle.std.proofs.lemmas.Option.{slice_get_within}
use Rattle.rx_fields.specs.Order.{key_cmp}
use Rattle.rx_ledger.specs.Ledger.{is_taken, row_under, without_row}
use Rattle.rx_ledger.proofs.Orders.{key_total}
use Rattle.rx_books_store.specs.BooksText.{families_of}
use Rattle.rx_books_store.specs.Store.{slot_key, slot_keys, standing}
use Rattle.rx_books_store.proofs.Stored.{IsAt-get, deductible-part, family_deductible-part, holder-at, home-of, key-get, key-held}
use Rattle.rx_books_store.proofs.Stored.{keys-removed, length-deductibles, length-family_deductibles, length-pockets, pocket-part}
use Rattle.rx_books_store.proofs.Stored.{row-held, same_open, stands-removed, store-removed, taken-held}
use Rattle.rx_books_store.proofs.open_books.OpenBooks.remove.Goals as goal

pub unreachable-requires : goal.unreachable-requires
unreachable-requires c =
    let taken : IfSome (slice_get (slot_keys c.self.inside.changed) c.args.slot)
    (λ k. is_taken (standing c.self.inside.opening c.self.inside.changed) k ≡ true) = rw (← c.self.view_is) at c.requires.taken in
    taken-held _ _ _ _ _ _ c.self.invariant c.args.slot c.slot_at-found.result c.slot_at-found.ensures taken c.in-None.is

-- ---- places, and figures that the row is part of

pub home-family-requires : goal.home-family-requires
home-family-requires c =
    let at = holder-at _ _ _ _ _ _ c.self.invariant c.slot_at-found.result c.in-Some.row c.args.slot c.slot_at-found.ensures c.in-Some.is in
    at.in_range

pub replace_at-requires : goal.replace_at-requires
replace_at-requires c =
    IsAt-get key_cmp key_total slot_key c.self.inside.changed c.args.slot c.slot_at-found.result c.slot_at-found.ensures

pub take_at-requires-clause-in_range : goal.take_at-requires-clause-in_range
take_at-requires-clause-in_range c =
    let at = holder-at _ _ _ _ _ _ c.self.invariant c.slot_at-found.result c.in-Some.row c.args.slot c.slot_at-found.ensures c.in-Some.is in
    let long : length c.self.inside.deductibles.items ≡ length c.self.inside.opening.members =
    length-deductibles _ _ _ _ _ _ c.self.invariant in
    omega (arith, at.in_range)

pub take_at-requires-clause-enough : goal.take_at-requires-clause-enough
take_at-requires-clause-enough c =
    let at = holder-at _ _ _ _ _ _ c.self.invariant c.slot_at-found.result c.in-Some.row c.args.slot c.slot_at-found.ensures c.in-Some.is in
    let home = home-of c.self.inside.opening.members c.in-Some.row c.slot_at-found.result.holder
    (families_of c.self.inside.opening.members) c.home-family.result at c.home-family.ensures in
    rw c.counted_in-counted.ensures.deductible
    (deductible-part _ _ _ _ _ _ c.self.invariant c.slot_at-found.result c.in-Some.row c.args.slot c.slot_at-found.ensures c.in-Some.is
    c.home-family.result home)

pub take_at-requires-2-clause-in_range : goal.take_at-requires-2-clause-in_range
take_at-requires-2-clause-in_range c =
    let at = holder-at _ _ _ _ _ _ c.self.invariant c.slot_at-found.result c.in-Some.row c.args.slot c.slot_at-found.ensures c.in-Some.is in
    let home = home-of c.self.inside.opening.members c.in-Some.row c.slot_at-found.result.holder
    (families_of c.self.inside.opening.members) c.home-family.result at c.home-family.ensures in
    let within : c.home-family.result < length (families_of c.self.inside.opening.members) = slice_get_within _ _ _ home in
    let long : length c.self.inside.out_of_pockets.items ≡ length (families_of c.self.inside.opening.members) =
    length-pockets _ _ _ _ _ _ c.self.invariant in
    omega arith

pub take_at-requires-2-clause-enough : goal.take_at-requires-2-clause-enough
take_at-requires-2-clause-enough c =
    let at = holder-at _ _ _ _ _ _ c.self.invariant c.slot_at-found.result c.in-Some.row c.args.slot c.slot_at-found.ensures c.in-Some.is in
    let home = home-of c.self.inside.opening.members c.in-Some.row c.slot_at-found.result.holder
    (families_of c.self.inside.opening.members) c.home-family.result at c.home-family.ensures in
    rw c.counted_in-counted.ensures.out_of_pocket
    (pocket-part _ _ _ _ _ _ c.self.invariant c.slot_at-found.result c.in-Some.row c.args.slot c.slot_at-found.ensures c.in-Some.is
    c.home-family.result home)

pub take_at-requires-3-clause-in_range : goal.take_at-requires-3-clause-in_range
take_at-requires-3-clause-in_range c =
    let at = holder-at _ _ _ _ _ _ c.self.invariant c.slot_at-found.result c.in-Some.row c.args.slot c.slot_at-found.ensures c.in-Some.is in
    let home = home-of c.self.inside.opening.members c.in-Some.row c.slot_at-found.result.holder
    (families_of c.self.inside.opening.members) c.home-family.result at c.home-family.ensures in
    let within : c.home-family.result < length (families_of c.self.inside.opening.members) = slice_get_within _ _ _ home in
    let long : length c.self.inside.family_deductibles.items ≡ length (families_of c.self.inside.opening.members) =
    length-family_deductibles _ _ _ _ _ _ c.self.invariant in
    omega arith

pub take_at-requires-3-clause-enough : goal.take_at-requires-3-clause-enough
take_at-requires-3-clause-enough c =
    let at = holder-at _ _ _ _ _ _ c.self.invariant c.slot_at-found.result c.in-Some.row c.args.slot c.slot_at-found.ensures c.in-Some.is in
    let home = home-of c.self.inside.opening.members c.in-Some.row c.slot_at-found.result.holder
    (families_of c.self.inside.opening.members) c.home-family.result at c.home-family.ensures in
    rw c.counted_in-counted.ensures.deductible
    (family_deductible-part _ _ _ _ _ _ c.self.invariant c.slot_at-found.result c.in-Some.row c.args.slot
    c.slot_at-found.ensures c.in-Some.is
    c.home-family.result home)

-- ---- the row is taken out, and counts no more

pub invariant_of-self : goal.invariant_of-self
invariant_of-self c =
    let at = holder-at _ _ _ _ _ _ c.self.invariant c.slot_at-found.result c.in-Some.row c.args.slot c.slot_at-found.ensures c.in-Some.is in
    let home = home-of c.self.inside.opening.members c.in-Some.row c.slot_at-found.result.holder
    (families_of c.self.inside.opening.members) c.home-family.result at c.home-family.ensures in
    rw (
      c.replace_at.ensures.items,
      c.take_at.ensures,
      c.take_at-2.ensures,
      c.take_at-3.ensures,
      c.counted_in-counted.ensures.deductible,
      c.counted_in-counted.ensures.out_of_pocket,
    )
    (store-removed _ _ _ _ _ _ c.self.invariant c.slot_at-found.result c.in-Some.row c.args.slot c.slot_at-found.ensures c.in-Some.is
    c.home-family.result home)

pub returns-clause-slot : goal.returns-clause-slot
returns-clause-slot c =
    let same = key-held _ _ _ _ _ _ c.self.invariant c.slot_at-found.result c.in-Some.row c.args.slot c.slot_at-found.ensures
    c.in-Some.is in
    rw (← c.self.view_is) (key-get c.self.inside.changed c.args.slot c.slot_at-found.result c.slot_at-found.ensures ∙ ap Some (sym same))

pub returns-clause-row : goal.returns-clause-row
returns-clause-row c =
    let same = key-held _ _ _ _ _ _ c.self.invariant c.slot_at-found.result c.in-Some.row c.args.slot c.slot_at-found.ensures
    c.in-Some.is in
    let there = row-held _ _ _ _ _ _ c.self.invariant c.slot_at-found.result c.in-Some.row c.args.slot c.slot_at-found.ensures
    c.in-Some.is in
    rw (← c.self.view_is) (ap (row_under (standing c.self.inside.opening c.self.inside.changed)) same ∙ there)

pub returns-clause-books : goal.returns-clause-books
returns-clause-books c =
    let inside = c.self.inside in
    let same = key-held _ _ _ _ _ _ c.self.invariant c.slot_at-found.result c.in-Some.row c.args.slot c.slot_at-found.ensures
    c.in-Some.is in
    let ledger = stands-removed _ _ _ _ _ _ c.self.invariant c.slot_at-found.result c.in-Some.row c.args.slot c.slot_at-found.ensures
    c.in-Some.is in
    let keys = keys-removed _ _ _ _ _ _ c.self.invariant c.slot_at-found.result c.in-Some.row c.args.slot c.slot_at-found.ensures
    c.in-Some.is in
    rw (c.replace_at.ensures.items, ← c.self.view_is)
    (same_open inside.period _ _ _ _ (ledger ∙ ap (without_row (standing inside.opening inside.changed)) (sym same)) keys)
