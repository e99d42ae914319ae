use Rattle.std.proofs.Common.{◌≡◌, Some, None, refl, sym, subst, ap, ◌∙◌, true}
use Rattle.std.specs.Prelude.{IfSome}
use Rattle.rx_fields.specs.Order.{id_cmp, key_cmp}
use Rattle.rx_sorted.specs.Ascending.{IsAt, put}
use Rattle.rx_books_family.specs.declared.key_book.KeyBook.{KeyBook}
use Rattle.rx_books_family.specs.Books.{OfFamily, OfKey}
use Rattle.rx_books_family.specs.FamilyBook.{IsOwn, book_without_row, family_of}
use Rattle.rx_sorted.specs.Few.{items_of}
use Rattle.rx_books_parcel.specs.Footprints.{names}
use Rattle.rx_books_parcel.specs.Parcels.{ParcelParts, key_of, named_in, row_at}
use Rattle.rx_sorted.proofs.FewItems.{items_with}
use Rattle.rx_books_parcel.proofs.Held.{family_held, key_held}
use Rattle.rx_books_parcel.proofs.Written.{removed_families, written}
use Rattle.rx_books_parcel.proofs.parcel.Parcel.remove.Goals as goal

pub held_place-at-requires-clause-rise : goal.held_place-at-requires-clause-rise
held_place-at-requires-clause-rise c = rw c.as_slice.ensures c.self.invariant.families_rise

pub held_place-at-requires-clause-held : goal.held_place-at-requires-clause-held
held_place-at-requires-clause-held c =
    let p : ParcelParts = record
    { period = c.self.inside.period; keys = items_of c.self.inside.keys; families = items_of c.self.inside.families } in
    let family = c.in-Some.row.family in
    let stands : row_at c.args.self.now c.args.key.now ≡ Some c.in-Some.row = sym c.row.ensures ∙ c.in-Some.is in
    let named : names (named_in c.args.self.now) (OfFamily family) ≡ true =
    subst (λ o. IfSome o (λ r. names (named_in c.args.self.now) (OfFamily r.family) ≡ true)) stands c.requires.family in
    let nf : names (named_in p) (OfFamily family) ≡ true = rw (← c.self.view_is) at named in
    rw c.as_slice.ensures (sym (family_held p family) ∙ nf)

pub write_over-requires-clause-held : goal.write_over-requires-clause-held
write_over-requires-clause-held c =
    let p : ParcelParts = record
    { period = c.self.inside.period; keys = items_of c.self.inside.keys; families = items_of c.self.inside.families } in
    let nk : names (named_in p) (OfKey c.args.key.now) ≡ true = rw (← c.self.view_is) at c.requires.key in
    sym (key_held p c.args.key.now) ∙ nk

pub invariant_of-self : goal.invariant_of-self
invariant_of-self c =
    let p : ParcelParts = record
    { period = c.self.inside.period; keys = items_of c.self.inside.keys; families = items_of c.self.inside.families } in
    let family = c.in-Some.row.family in
    let key = c.args.key.now in
    let at = c.held_place-at.result in
    let b = c.at_mut-family.result.now in
    let is_at : IsAt id_cmp family_of p.families family at = rw c.as_slice.ensures at c.held_place-at.ensures in
    let slot : KeyBook = record { key = key; row = None } in
    let keys : items_of c.write_over.new.keys ≡ put key_cmp key_of p.keys slot = c.write_over.ensures in
    let wrote = items_with c.self.inside.families at c.remove-removed.new.self is_at.in_range in
    let new : c.remove-removed.new.self ≡ book_without_row b key = c.remove-removed.ensures.rows in
    let owned : IsOwn (book_without_row b key) = rw new at c.remove-removed.ensures.within in
    rw (keys, wrote, new) (written p c.self.invariant family at is_at b c.at_mut-family.ensures.value slot tt
    (book_without_row b key) refl refl owned)

pub returns-clause-within : goal.returns-clause-within
returns-clause-within c = invariant_of-self c

pub returns-clause-books : goal.returns-clause-books
returns-clause-books c =
    let p : ParcelParts = record
    { period = c.self.inside.period; keys = items_of c.self.inside.keys; families = items_of c.self.inside.families } in
    let family = c.in-Some.row.family in
    let key = c.args.key.now in
    let at = c.held_place-at.result in
    let b = c.at_mut-family.result.now in
    let is_at : IsAt id_cmp family_of p.families family at = rw c.as_slice.ensures at c.held_place-at.ensures in
    let stands : row_at c.args.self.now key ≡ Some c.in-Some.row = sym c.row.ensures ∙ c.in-Some.is in
    let there : row_at p key ≡ Some c.in-Some.row = rw (← c.self.view_is) at stands in
    let slot : KeyBook = record { key = key; row = None } in
    let keys : items_of c.write_over.new.keys ≡ put key_cmp key_of p.keys slot = c.write_over.ensures in
    let wrote = items_with c.self.inside.families at c.remove-removed.new.self is_at.in_range in
    let new : c.remove-removed.new.self ≡ book_without_row b key = c.remove-removed.ensures.rows in
    rw (← c.self.view_is) (rw (keys, wrote, new)
    (ap (λ fs. record p { keys = put key_cmp key_of p.keys slot; families = fs })
    (removed_families p c.self.invariant family at is_at b c.at_mut-family.ensures.value c.in-Some.row key refl there)))
