use Rattle.std.proofs.Common.{◌≡◌, Some, None, IsSome, Result, Ok, Err, OnErr, refl, sym, subst, ap, ◌∙◌, true}
use Rattle.std.specs.Option.{option_and_then}
use Rattle.rx_fields.specs.Order.{id_cmp, key_cmp}
use Rattle.rx_sorted.specs.Ascending.{IsAt, put}
use Rattle.rx_ledger.specs.Ledger.{is_listed}
use Rattle.rx_ledger.specs.Members.{person_in}
use Rattle.rx_books_family.specs.declared.key_book.KeyBook.{KeyBook}
use Rattle.rx_books_family.specs.Books.{OfFamily, OfKey}
use Rattle.rx_books_family.specs.FamilyBook.{FamilyBook, IsOwn, book_with_row, family_of, own_ledger}
use Rattle.rx_sorted.specs.Few.{items_of}
use Rattle.rx_books_parcel.specs.Footprints.{names}
use Rattle.rx_books_parcel.specs.Parcels.{Agrees, ParcelParts, key_of, member_at, named_in, row_at}
use Rattle.rx_sorted.proofs.FewItems.{items_with}
use Rattle.rx_books_parcel.proofs.Held.{family_held, free_in_family, key_held, listed_there}
use Rattle.rx_books_parcel.proofs.Written.{added_families, book_there, family_there, own_there, unwritten, written}
use Rattle.rx_books_parcel.proofs.parcel.Parcel.add.Goals as goal

pub held_place-at-requires-clause-rise : goal.held_place-at-requires-clause-rise
held_place-at-requires-clause-rise c = rw c.as_slice.ensures c.self.invariant.families_rise

pub held_place-at-requires-clause-held : goal.held_place-at-requires-clause-held
held_place-at-requires-clause-held c =
    let p : ParcelParts = record
    { period = c.self.inside.period; keys = items_of c.self.inside.keys; families = items_of c.self.inside.families } in
    let nf : names (named_in p) (OfFamily c.args.row.family) ≡ true = rw (← c.self.view_is) at c.requires.family in
    rw c.as_slice.ensures (sym (family_held p c.args.row.family) ∙ nf)

pub add-requires-clause-free : goal.add-requires-clause-free
add-requires-clause-free c =
    let p : ParcelParts = record
    { period = c.self.inside.period; keys = items_of c.self.inside.keys; families = items_of c.self.inside.families } in
    let family = c.args.row.family in
    let is_at : IsAt id_cmp family_of p.families family c.held_place-at.result =
    rw c.as_slice.ensures at c.held_place-at.ensures in
    let there = book_there p c.self.invariant family c.held_place-at.result is_at c.at_mut-family.result.now
    c.at_mut-family.ensures.value in
    let agreed : Agrees p = rw (← c.self.view_is) at c.requires.agrees in
    let nf : names (named_in p) (OfFamily family) ≡ true = rw (← c.self.view_is) at c.requires.family in
    let nk : names (named_in p) (OfKey c.args.row.key) ≡ true = rw (← c.self.view_is) at c.requires.key in
    let free : row_at p c.args.row.key ≡ None = rw (← c.self.view_is) at c.requires.free in
    free_in_family p c.self.invariant agreed family c.at_mut-family.result.now c.args.row.key nf nk there free

pub add-requires-clause-listed : goal.add-requires-clause-listed
add-requires-clause-listed c =
    let p : ParcelParts = record
    { period = c.self.inside.period; keys = items_of c.self.inside.keys; families = items_of c.self.inside.families } in
    let family = c.args.row.family in
    let person = c.args.row.person in
    let b = c.at_mut-family.result.now in
    let value = c.at_mut-family.ensures.value in
    let is_at : IsAt id_cmp family_of p.families family c.held_place-at.result =
    rw c.as_slice.ensures at c.held_place-at.ensures in
    let there = book_there p c.self.invariant family c.held_place-at.result is_at b value in
    let own = own_there p c.self.invariant family c.held_place-at.result is_at b value in
    let theirs = family_there p c.self.invariant family c.held_place-at.result is_at b value in
    let listed : IsSome (member_at p family person) = rw (← c.self.view_is) at c.requires.listed in
    let found : IsSome (person_in b.members person) =
    subst (λ o. IsSome (option_and_then (λ (d : FamilyBook). person_in d.members person) o)) there listed in
    subst (λ f. is_listed (own_ledger b) (record { family = f; person = person }) ≡ true) theirs
    (listed_there b own person found)

pub write_over-requires-clause-held : goal.write_over-requires-clause-held
write_over-requires-clause-held c =
    let p : ParcelParts = record
    { period = c.self.inside.period; keys = items_of c.self.inside.keys; families = items_of c.self.inside.families } in
    let nk : names (named_in p) (OfKey c.args.row.key) ≡ true = rw (← c.self.view_is) at c.requires.key in
    sym (key_held p c.args.row.key) ∙ nk

pub invariant_of-self : goal.invariant_of-self
invariant_of-self c =
    let families = c.self.inside.families in
    let at = c.held_place-at.result in
    let is_at : IsAt id_cmp family_of (items_of families) c.args.row.family at = rw c.as_slice.ensures at c.held_place-at.ensures in
    let same = c.in_err-add.ensures.err ∙ c.at_mut-family.ensures.value in
    rw (
      items_with families at c.add.new.self is_at.in_range,
      unwritten (items_of families) at c.add.new.self c.at_mut-family.result.now same,
    ) c.self.invariant

pub invariant_of-self-2 : goal.invariant_of-self-2
invariant_of-self-2 c =
    let p : ParcelParts = record
    { period = c.self.inside.period; keys = items_of c.self.inside.keys; families = items_of c.self.inside.families } in
    let family = c.args.row.family in
    let at = c.held_place-at.result in
    let b = c.at_mut-family.result.now in
    let is_at : IsAt id_cmp family_of p.families family at = rw c.as_slice.ensures at c.held_place-at.ensures in
    let slot : KeyBook = record { key = c.args.row.key; row = Some c.args.row } in
    let keys : items_of c.write_over.new.keys ≡ put key_cmp key_of p.keys slot = c.write_over.ensures in
    let wrote = items_with c.self.inside.families at c.add.new.self is_at.in_range in
    let new : c.add.new.self ≡ book_with_row b c.args.row = c.in_ok-add.ensures.ok in
    let owned : IsOwn (book_with_row b c.args.row) = rw new at c.add.ensures.within in
    rw (keys, wrote, new) (written p c.self.invariant family at is_at b c.at_mut-family.ensures.value slot refl
    (book_with_row b c.args.row) refl refl owned)

on_err : {X E : Type 0} {P : Type 0} (r : Result X E) → P → OnErr r P
on_err (Ok x) p = tt
on_err (Err e) p = p

pub returns-in_err-add-clause-within : goal.returns-in_err-add-clause-within
returns-in_err-add-clause-within c = invariant_of-self c

pub returns-clause-within : goal.returns-clause-within
returns-clause-within c = invariant_of-self-2 c

pub returns-in_err-add-clause-err : goal.returns-in_err-add-clause-err
returns-in_err-add-clause-err c =
    let families = c.self.inside.families in
    let at = c.held_place-at.result in
    let is_at : IsAt id_cmp family_of (items_of families) c.args.row.family at = rw c.as_slice.ensures at c.held_place-at.ensures in
    let same = items_with families at c.add.new.self is_at.in_range
    ∙ unwritten (items_of families) at c.add.new.self c.at_mut-family.result.now
    (c.in_err-add.ensures.err ∙ c.at_mut-family.ensures.value) in
    on_err c.from_residual.result
    (ap (λ fs. record { period = c.self.inside.period; keys = items_of c.self.inside.keys; families = fs }) same ∙ c.self.view_is)

pub returns-clause-ok : goal.returns-clause-ok
returns-clause-ok c =
    let p : ParcelParts = record
    { period = c.self.inside.period; keys = items_of c.self.inside.keys; families = items_of c.self.inside.families } in
    let family = c.args.row.family in
    let at = c.held_place-at.result in
    let b = c.at_mut-family.result.now in
    let is_at : IsAt id_cmp family_of p.families family at = rw c.as_slice.ensures at c.held_place-at.ensures in
    let slot : KeyBook = record { key = c.args.row.key; row = Some c.args.row } in
    let keys : items_of c.write_over.new.keys ≡ put key_cmp key_of p.keys slot = c.write_over.ensures in
    let wrote = items_with c.self.inside.families at c.add.new.self is_at.in_range in
    let new : c.add.new.self ≡ book_with_row b c.args.row = c.in_ok-add.ensures.ok in
    rw (← c.self.view_is) (rw (keys, wrote, new)
    (ap (λ fs. record p { keys = put key_cmp key_of p.keys slot; families = fs })
    (added_families p c.self.invariant family at is_at b c.at_mut-family.ensures.value c.args.row refl)))
