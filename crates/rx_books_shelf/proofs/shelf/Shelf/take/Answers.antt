use Rattle.std.proofs.Common.{◌≡◌, true, sym, ap, subst, ◌∙◌}
use Rattle.std.specs.List.{All}
use Rattle.std.specs.Option.{is_some}
use Rattle.rx_fields.specs.Order.{id_cmp, key_cmp}
use Rattle.rx_sorted.specs.Ascending.{IsAscending}
use Rattle.rx_ledger.proofs.Orders.{id_exact, key_exact}
use Rattle.rx_books_family.specs.FamilyBook.{FamilyBook, IsOwn, family_of}
use Rattle.rx_sorted.specs.Few.{items_of}
use Rattle.rx_books_parcel.specs.Parcels.{HasOwnRow, IsParcel, key_of, values_of}
use Rattle.rx_books_family.specs.Shelves.{IsShelf, ShelfParts, has_slot, is_out, value_of}
use Rattle.rx_books_shelf.specs.Closed.{HasSlot}
use Rattle.rx_books_shelf.specs.Taken.{has_all}
use Rattle.rx_books_shelf.proofs.ShelfKept.{books_own, families_rise, keys_rise, one_period, parcel_own, parcel_parts, rows_own}
use Rattle.rx_books_shelf.proofs.ShelfKept.{shelf_parts, shelf_taken, slots_stay, taken_parts}
use Rattle.rx_books_shelf.proofs.TakenPlaces.{keys_all_in, keys_read}
use Rattle.rx_books_shelf.proofs.Worth.{out_taken, slots_taken, values_left, values_taken}
use Rattle.rx_books_shelf.proofs.shelf.Shelf.take.Goals as goal

pub take_all-keys-requires-clause-exact : goal.take_all-keys-requires-clause-exact
take_all-keys-requires-clause-exact c = key_exact

pub take_all-keys-requires-clause-rise : goal.take_all-keys-requires-clause-rise
take_all-keys-requires-clause-rise c = rw c.keys-2.ensures.value c.keys-2.ensures.within.keys_rise

pub take_all-families-requires-clause-exact : goal.take_all-families-requires-clause-exact
take_all-families-requires-clause-exact c = id_exact

pub take_all-families-requires-clause-rise : goal.take_all-families-requires-clause-rise
take_all-families-requires-clause-rise c = rw c.families-2.ensures.value c.families-2.ensures.within.families_rise

pub new-requires-clause-keys_rise : goal.new-requires-clause-keys_rise
new-requires-clause-keys_rise c =
    let s : ShelfParts = shelf_parts c.self.inside.books.books c.self.inside.keys c.self.inside.families in
    let F = c.args.footprint.now in
    let all : has_all s F ≡ true = rw (← c.self.view_is) at (sym c.all_in.ensures ∙ ap is_some c.in-Some.is) in
    let books = c.take_all-keys.ensures.contents ∙ keys_read s.keys c.keys-2.result.now
    (keys_all_in s F c.keys-2.result.now c.keys-2.ensures.value all) in
    subst (IsAscending key_cmp key_of) (sym books)
    (keys_rise c.self.inside.keys c.keys-2.result.now (rw c.keys-2.ensures.value c.keys-2.ensures.within.keys_rise))

pub new-requires-clause-rows_own : goal.new-requires-clause-rows_own
new-requires-clause-rows_own c =
    let s : ShelfParts = shelf_parts c.self.inside.books.books c.self.inside.keys c.self.inside.families in
    let F = c.args.footprint.now in
    let all : has_all s F ≡ true = rw (← c.self.view_is) at (sym c.all_in.ensures ∙ ap is_some c.in-Some.is) in
    let books = c.take_all-keys.ensures.contents ∙ keys_read s.keys c.keys-2.result.now
    (keys_all_in s F c.keys-2.result.now c.keys-2.ensures.value all) in
    subst (All HasOwnRow) (sym books)
    (rows_own c.self.inside.keys c.keys-2.result.now c.self.invariant.0.rows_own)

pub new-requires-clause-families_rise : goal.new-requires-clause-families_rise
new-requires-clause-families_rise c =
    subst (IsAscending id_cmp family_of) (sym (c.take_all-families.ensures.contents))
    (families_rise c.self.inside.books.books.period c.self.inside.families c.self.invariant.0.books_own c.families-2.result.now
    (rw c.families-2.ensures.value c.families-2.ensures.within.families_rise))

pub new-requires-clause-families_own : goal.new-requires-clause-families_own
new-requires-clause-families_own c =
    subst (All IsOwn) (sym (c.take_all-families.ensures.contents))
    (books_own c.self.inside.books.books.period c.self.inside.families c.self.invariant.0.books_own c.families-2.result.now)

pub new-requires-clause-one_period : goal.new-requires-clause-one_period
new-requires-clause-one_period c =
    subst (All (λ (b : FamilyBook). b.period ≡ c.period.result)) (sym (c.take_all-families.ensures.contents))
    (rw c.period.ensures.value (one_period c.self.inside.books.books.period c.self.inside.families c.self.invariant.0.books_own
    c.families-2.result.now))

pub invariant_of-self : goal.invariant_of-self
invariant_of-self c =
    let s : ShelfParts = shelf_parts c.self.inside.books.books c.self.inside.keys c.self.inside.families in
    let F = c.args.footprint.now in
    let taken = taken_parts s F c.keys-2.result.now c.families-2.result.now c.take_all-keys.new.self
    c.take_all-families.new.self
    c.keys-2.ensures.value c.families-2.ensures.value c.take_all-keys.ensures.slots c.take_all-families.ensures.slots in (
      subst IsShelf (sym taken) (shelf_taken s F c.self.invariant.0),
      subst (All (HasSlot c.self.inside.books.slots)) (sym c.take_all-keys.ensures.slots)
          (slots_stay c.self.inside.books.slots c.keys-2.result.now c.self.inside.keys c.self.invariant.1),
    )

pub returns-clause-parcel : goal.returns-clause-parcel
returns-clause-parcel c =
    let s : ShelfParts = shelf_parts c.self.inside.books.books c.self.inside.keys c.self.inside.families in
    let F = c.args.footprint.now in
    let all : has_all s F ≡ true = rw (← c.self.view_is) at (sym c.all_in.ensures ∙ ap is_some c.in-Some.is) in
    let books = c.take_all-keys.ensures.contents ∙ keys_read s.keys c.keys-2.result.now
    (keys_all_in s F c.keys-2.result.now c.keys-2.ensures.value all) in
    let parcel = parcel_parts s F c.new.result c.period.result c.keys-2.result.now c.families-2.result.now
    (items_of c.take_all-keys.result)
    (items_of c.take_all-families.result) c.new.ensures c.period.ensures.value c.keys-2.ensures.value c.families-2.ensures.value
    books c.take_all-families.ensures.contents in
    rw (← c.self.view_is) parcel

pub returns-clause-ok : goal.returns-clause-ok
returns-clause-ok c =
    let s : ShelfParts = shelf_parts c.self.inside.books.books c.self.inside.keys c.self.inside.families in
    let F = c.args.footprint.now in
    let taken = taken_parts s F c.keys-2.result.now c.families-2.result.now c.take_all-keys.new.self
    c.take_all-families.new.self
    c.keys-2.ensures.value c.families-2.ensures.value c.take_all-keys.ensures.slots c.take_all-families.ensures.slots in
    rw (← c.self.view_is) taken

pub returns-clause-values : goal.returns-clause-values
returns-clause-values c =
    let s : ShelfParts = shelf_parts c.self.inside.books.books c.self.inside.keys c.self.inside.families in
    let F = c.args.footprint.now in
    let all : has_all s F ≡ true = rw (← c.self.view_is) at (sym c.all_in.ensures ∙ ap is_some c.in-Some.is) in
    let books = c.take_all-keys.ensures.contents ∙ keys_read s.keys c.keys-2.result.now
    (keys_all_in s F c.keys-2.result.now c.keys-2.ensures.value all) in
    let parcel = parcel_parts s F c.new.result c.period.result c.keys-2.result.now c.families-2.result.now
    (items_of c.take_all-keys.result)
    (items_of c.take_all-families.result) c.new.ensures c.period.ensures.value c.keys-2.ensures.value c.families-2.ensures.value
    books c.take_all-families.ensures.contents in
    rw (← c.self.view_is) (λ b. ap (λ p. values_of p b) parcel ∙ values_taken s F all c.self.invariant.0 b)

pub returns-clause-left : goal.returns-clause-left
returns-clause-left c =
    let s : ShelfParts = shelf_parts c.self.inside.books.books c.self.inside.keys c.self.inside.families in
    let F = c.args.footprint.now in
    let all : has_all s F ≡ true = rw (← c.self.view_is) at (sym c.all_in.ensures ∙ ap is_some c.in-Some.is) in
    let taken = taken_parts s F c.keys-2.result.now c.families-2.result.now c.take_all-keys.new.self
    c.take_all-families.new.self
    c.keys-2.ensures.value c.families-2.ensures.value c.take_all-keys.ensures.slots c.take_all-families.ensures.slots in
    rw (← c.self.view_is) (λ b. ap (λ t. value_of t b) taken ∙ values_left s F all b)

pub returns-clause-out : goal.returns-clause-out
returns-clause-out c =
    let s : ShelfParts = shelf_parts c.self.inside.books.books c.self.inside.keys c.self.inside.families in
    let F = c.args.footprint.now in
    let all : has_all s F ≡ true = rw (← c.self.view_is) at (sym c.all_in.ensures ∙ ap is_some c.in-Some.is) in
    let taken = taken_parts s F c.keys-2.result.now c.families-2.result.now c.take_all-keys.new.self
    c.take_all-families.new.self
    c.keys-2.ensures.value c.families-2.ensures.value c.take_all-keys.ensures.slots c.take_all-families.ensures.slots in
    rw (← c.self.view_is) (λ b. ap (λ t. is_out t b) taken ∙ out_taken s F all b)

pub returns-clause-slots : goal.returns-clause-slots
returns-clause-slots c =
    let s : ShelfParts = shelf_parts c.self.inside.books.books c.self.inside.keys c.self.inside.families in
    let F = c.args.footprint.now in
    let taken = taken_parts s F c.keys-2.result.now c.families-2.result.now c.take_all-keys.new.self
    c.take_all-families.new.self
    c.keys-2.ensures.value c.families-2.ensures.value c.take_all-keys.ensures.slots c.take_all-families.ensures.slots in
    rw (← c.self.view_is) (λ b. ap (λ t. has_slot t b) taken ∙ slots_taken s F b)

pub returns-clause-within : goal.returns-clause-within
returns-clause-within c = rw (← c.self.view_is) c.self.invariant.0

pub returns-clause-own : goal.returns-clause-own
returns-clause-own c =
    let s : ShelfParts = shelf_parts c.self.inside.books.books c.self.inside.keys c.self.inside.families in
    let F = c.args.footprint.now in
    let all : has_all s F ≡ true = rw (← c.self.view_is) at (sym c.all_in.ensures ∙ ap is_some c.in-Some.is) in
    let books = c.take_all-keys.ensures.contents ∙ keys_read s.keys c.keys-2.result.now
    (keys_all_in s F c.keys-2.result.now c.keys-2.ensures.value all) in
    let parcel = parcel_parts s F c.new.result c.period.result c.keys-2.result.now c.families-2.result.now
    (items_of c.take_all-keys.result)
    (items_of c.take_all-families.result) c.new.ensures c.period.ensures.value c.keys-2.ensures.value c.families-2.ensures.value
    books c.take_all-families.ensures.contents in
    subst IsParcel (sym parcel)
    (parcel_own s F c.self.invariant.0 c.keys-2.ensures.within.keys_rise c.families-2.ensures.within.families_rise)
