use Rattle.std.proofs.Common.{◌≡◌, true, refl, sym, ap, subst, ◌∙◌}
use Rattle.std.specs.List.{All}
use Rattle.std.specs.Option.{is_some}
use Rattle.rx_sorted.specs.Few.{items_of}
use Rattle.rx_books_parcel.specs.Parcels.{named_in}
use Rattle.rx_books_family.specs.Shelves.{IsShelf, ShelfParts, has_slot, is_out, value_of}
use Rattle.rx_books_shelf.specs.Closed.{HasSlot}
use Rattle.rx_books_shelf.specs.Taken.{are_out}
use Rattle.rx_books_shelf.proofs.ShelfKept.{given_parts, same_period, shelf_given, shelf_parts, slots_stay_given}
use Rattle.rx_books_shelf.proofs.TakenPlaces.{families_put, keys_put}
use Rattle.rx_books_shelf.proofs.Worth.{out_given, slots_given, values_given}
use Rattle.rx_books_shelf.proofs.shelf.Shelf.give.Goals as goal

pub invariant_of-self : goal.invariant_of-self
invariant_of-self c =
    let s : ShelfParts = shelf_parts c.self.inside.books.books c.self.inside.keys c.self.inside.families in
    let p = c.args.parcel in
    let given = given_parts s p (items_of c.into_books-keys.result.0) (items_of c.into_books-keys.result.1)
    c.put_all.new.self c.put_all-2.new.self c.into_books-keys.ensures.keys c.into_books-keys.ensures.families
    (c.put_all.ensures ∙ keys_put (items_of c.into_books-keys.result.0) s.keys)
    (c.put_all-2.ensures ∙ families_put (items_of c.into_books-keys.result.1) s.families) in (
      subst IsShelf (sym given) (shelf_given s p c.self.invariant.0 c.into_books-keys.ensures.within
          (sym c.period.ensures.value ∙ same_period c.period.result c.period-2.result c.ne.result c.ne.ensures c.if-ne.false
          ∙ c.period-2.ensures.value)),
      subst (All (HasSlot c.self.inside.books.slots)) (sym (c.put_all.ensures ∙ keys_put (items_of c.into_books-keys.result.0) s.keys))
          (slots_stay_given c.self.inside.books.slots (items_of c.into_books-keys.result.0) c.self.inside.keys c.self.invariant.1),
    )

pub returns-clause-accepts : goal.returns-clause-accepts
returns-clause-accepts c =
    let same = sym c.period.ensures.value ∙ same_period c.period.result c.period-2.result c.ne.result c.ne.ensures c.if-ne.false
    ∙ c.period-2.ensures.value in
    (λ _. (rw (← c.self.view_is) same, sym c.all_out.ensures ∙ ap is_some c.in-Some.is), λ _. refl)

pub returns-clause-values : goal.returns-clause-values
returns-clause-values c =
    let s : ShelfParts = shelf_parts c.self.inside.books.books c.self.inside.keys c.self.inside.families in
    let p = c.args.parcel in
    let out : are_out s (named_in p) ≡ true = rw (← c.self.view_is) at (sym c.all_out.ensures ∙ ap is_some c.in-Some.is) in
    let given = given_parts s p (items_of c.into_books-keys.result.0) (items_of c.into_books-keys.result.1)
    c.put_all.new.self c.put_all-2.new.self c.into_books-keys.ensures.keys c.into_books-keys.ensures.families
    (c.put_all.ensures ∙ keys_put (items_of c.into_books-keys.result.0) s.keys)
    (c.put_all-2.ensures ∙ families_put (items_of c.into_books-keys.result.1) s.families) in
    rw (← c.self.view_is) (λ b. ap (λ t. value_of t b) given ∙ values_given s p out b)

pub returns-clause-out : goal.returns-clause-out
returns-clause-out c =
    let s : ShelfParts = shelf_parts c.self.inside.books.books c.self.inside.keys c.self.inside.families in
    let p = c.args.parcel in
    let out : are_out s (named_in p) ≡ true = rw (← c.self.view_is) at (sym c.all_out.ensures ∙ ap is_some c.in-Some.is) in
    let given = given_parts s p (items_of c.into_books-keys.result.0) (items_of c.into_books-keys.result.1)
    c.put_all.new.self c.put_all-2.new.self c.into_books-keys.ensures.keys c.into_books-keys.ensures.families
    (c.put_all.ensures ∙ keys_put (items_of c.into_books-keys.result.0) s.keys)
    (c.put_all-2.ensures ∙ families_put (items_of c.into_books-keys.result.1) s.families) in
    rw (← c.self.view_is) (λ b. ap (λ t. is_out t b) given ∙ out_given s p out b)

pub returns-clause-ok : goal.returns-clause-ok
returns-clause-ok c =
    let s : ShelfParts = shelf_parts c.self.inside.books.books c.self.inside.keys c.self.inside.families in
    let p = c.args.parcel in
    let given = given_parts s p (items_of c.into_books-keys.result.0) (items_of c.into_books-keys.result.1)
    c.put_all.new.self c.put_all-2.new.self c.into_books-keys.ensures.keys c.into_books-keys.ensures.families
    (c.put_all.ensures ∙ keys_put (items_of c.into_books-keys.result.0) s.keys)
    (c.put_all-2.ensures ∙ families_put (items_of c.into_books-keys.result.1) s.families) in
    rw (← c.self.view_is) given

pub returns-clause-slots : goal.returns-clause-slots
returns-clause-slots c =
    let s : ShelfParts = shelf_parts c.self.inside.books.books c.self.inside.keys c.self.inside.families in
    let p = c.args.parcel in
    let given = given_parts s p (items_of c.into_books-keys.result.0) (items_of c.into_books-keys.result.1)
    c.put_all.new.self c.put_all-2.new.self c.into_books-keys.ensures.keys c.into_books-keys.ensures.families
    (c.put_all.ensures ∙ keys_put (items_of c.into_books-keys.result.0) s.keys)
    (c.put_all-2.ensures ∙ families_put (items_of c.into_books-keys.result.1) s.families) in
    rw (← c.self.view_is) (λ b. ap (λ t. has_slot t b) given ∙ slots_given s p b)
