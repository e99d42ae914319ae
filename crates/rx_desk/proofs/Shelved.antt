-- What holds of each book that a footprint names, and of each place of a shelf, decided by the shelf's own tests.
use Rattle.std.proofs.Common.{◌≡◌, ℕ, suc, List, [], ◌∷◌, ◌++◌, map, true, false, Bool, not, ◌&&◌}
use Rattle.std.proofs.Common.{Option, Some, None, refl, sym, ap, ◌∙◌, arith, inl, inr}
use Rattle.std.specs.Cmp.{IsTotalOrder}
use Rattle.std.specs.List.{Contains, flat_map, list_all}
use Rattle.std.specs.Option.{is_some, option_and_then, option_to_list}
use Rattle.std.specs.Ordering.{is_eq}
use Rattle.std.specs.declared.cmp.Ordering.{Ordering}
use Rattle.std.proofs.lemmas.Bool.{cases_Bool}
use Rattle.std.proofs.lemmas.Cmp.{tied_itself}
use Rattle.std.proofs.lemmas.List.Concat.{flat_map-cons}
use Rattle.std.proofs.lemmas.List.Elements.{All-contains}
use Rattle.rx_fields.specs.Order.{id_cmp, key_cmp}
use Rattle.rx_fields.specs.declared.key.Key.{Key}
use Rattle.rx_sorted.specs.Ascending.{contains_key, item_at, itself}
use Rattle.rx_sorted.proofs.LookUps.{item_at-found, item_at-from_contains}
use Rattle.rx_ledger.proofs.Orders.{id_exact, id_total, key_total}
use Rattle.rx_books_family.specs.Books.{Book, OfFamily, OfKey}
use Rattle.rx_books_family.specs.FamilyBook.{FamilyBook, family_of}
use Rattle.rx_books_parcel.specs.Footprints.{FootprintParts, names}
use Rattle.rx_books_parcel.specs.Parcels.{key_of, named_in}
use Rattle.rx_books_family.specs.declared.place.FamilyPlace.{FamilyPlace}
use Rattle.rx_books_family.specs.declared.place.KeyPlace.{KeyPlace}
use Rattle.rx_books_family.specs.Shelves.{HoldsOwnBook, IsShelf, ShelfParts, are_all_in, family_place}
use Rattle.rx_books_family.specs.Shelves.{has_slot, is_family_held, is_family_in, is_family_out}
use Rattle.rx_books_family.specs.Shelves.{is_in, is_key_held, is_key_in, is_key_out, is_out, key_place, place_family, place_key}
use Rattle.rx_books_shelf.specs.Taken.{are_out, held_book, has_all, held_key, taken_parcel}

-- what is true of each key that is among these is true of all
all_named : {K : Type 0} (cmp : K → K → Ordering) → IsTotalOrder cmp → (p : K → Bool) (ks : List K)
    → ((k : K) → contains_key cmp itself ks k ≡ true → p k ≡ true) → list_all p ks ≡ true
all_named cmp order p [] h = refl
all_named cmp order p (j ∷ js) h =
    let first : p j ≡ true = h j (rw (tied_itself order j) refl) in
    let rest : list_all p js ≡ true = all_named cmp order p js (λ k among. h k (elim (cases_Bool (is_eq (cmp j k))) [
      | inl t ↦ rw t refl
      | inr f ↦ rw f among
    ])) in
    (λ i. first i && rest i)

module _ (s : ShelfParts) (F : FootprintParts) where
  pub has_all_named : ((b : Book) → names F b ≡ true → is_in s b ≡ true) → has_all s F ≡ true
  has_all_named h =
      let keys = all_named key_cmp key_total (λ k. is_in s (OfKey k)) F.keys (λ k n. h (OfKey k) n) in
      let families = all_named id_cmp id_total (λ f. is_in s (OfFamily f)) F.families (λ f n. h (OfFamily f) n) in
      (λ i. keys i && families i)

  pub are_out_named : ((b : Book) → names F b ≡ true → is_out s b ≡ true) → are_out s F ≡ true
  are_out_named h =
      let keys = all_named key_cmp key_total (λ k. is_out s (OfKey k)) F.keys (λ k n. h (OfKey k) n) in
      let families = all_named id_cmp id_total (λ f. is_out s (OfFamily f)) F.families (λ f n. h (OfFamily f) n) in
      (λ i. keys i && families i)

-- what is true of each that is among a list
all_among : {X : Type 0} (p : X → Bool) (xs : List X) → ((x : X) → Contains xs x → p x ≡ true) → list_all p xs ≡ true
all_among p [] h = refl
all_among p (x ∷ xs) h =
    let first : p x ≡ true = h x (0, omega arith, refl) in
    let rest : list_all p xs ≡ true = all_among p xs (λ y among. h y (suc among.0, omega (arith, among.1), among.2)) in
    (λ i. first i && rest i)

held : (b : Bool) → not b ≡ false → b ≡ true
held true h = refl
held false h = absurd (let e : true ≡ false = h in cc)

-- where no book is out, all places hold theirs
pub all_in : (s : ShelfParts) → IsShelf s → ((b : Book) → is_out s b ≡ false) → are_all_in s ≡ true
all_in s is inside =
    let keys = all_among is_key_held s.keys (λ (p : KeyPlace) among.
    let at : key_place s p.key ≡ Some p = item_at-from_contains key_cmp key_total place_key s.keys p is.keys_rise among in
    held (is_key_held p) (ap is_key_out (sym at) ∙ inside (OfKey p.key))) in
    let families = all_among is_family_held s.families (λ (p : FamilyPlace) among.
    let at : family_place s p.family ≡ Some p =
    item_at-from_contains id_cmp id_total place_family s.families p is.families_rise among in
    held (is_family_held p) (ap is_family_out (sym at) ∙ inside (OfFamily p.family))) in
    (λ i. keys i && families i)

-- ---- the names of a parcel that was taken

key_names : (places : List KeyPlace) (ks : List Key) → map key_of (map (held_key places) ks) ≡ ks
key_names places [] = refl
key_names places (k ∷ ks) = ap (λ rest. k ∷ rest) (key_names places ks)

family_names : (places : List FamilyPlace) (fs : List (List ℕ))
    → ((f : List ℕ) → contains_key id_cmp itself fs f ≡ true → (b : FamilyBook)
    × (option_and_then (λ (p : FamilyPlace). p.held) (item_at id_cmp place_family places f) ≡ Some b) × (b.family ≡ f))
    → map family_of (flat_map (held_book places) fs) ≡ fs
family_names places [] h = refl
family_names places (f ∷ fs) h =
    let first = h f (rw (tied_itself id_total f) refl) in
    let rest : map family_of (flat_map (held_book places) fs) ≡ fs =
    family_names places fs (λ g among. h g (elim (cases_Bool (is_eq (id_cmp f g))) [
      | inl t ↦ rw t refl
      | inr n ↦ rw n among
    ])) in
    let here : held_book places f ≡ first.0 ∷ [] = ap option_to_list first.1 in
    ap (map family_of) (flat_map-cons (held_book places) f fs ∙ ap (λ books. books ++ flat_map (held_book places) fs) here)
    ∙ (λ i. first.2 i ∷ rest i)

-- a family that is in its place has its own book there
own_book : (s : ShelfParts) → IsShelf s → (f : List ℕ) → is_in s (OfFamily f) ≡ true → (b : FamilyBook)
    × (option_and_then (λ (p : FamilyPlace). p.held) (family_place s f) ≡ Some b) × (b.family ≡ f)
own_book s is f inside = by_place (family_place s f) refl inside
  where
    by_held : (p : FamilyPlace) → family_place s f ≡ Some p → (o : Option FamilyBook) → p.held ≡ o → is_some o ≡ true
        → (b : FamilyBook) × (option_and_then (λ (q : FamilyPlace). q.held) (family_place s f) ≡ Some b) × (b.family ≡ f)
    by_held p at None e h = absurd (let no : false ≡ true = h in cc)
    by_held p at (Some b) e h =
        let found = item_at-found id_cmp id_total place_family s.families f p at in
        let holds = All-contains (HoldsOwnBook s.period) s.families p is.books_own found.0 in
        let own = rw e at holds in
        (b, ap (option_and_then (λ (q : FamilyPlace). q.held)) at ∙ e, own.name ∙ id_exact p.family f found.1)

    by_place : (o : Option FamilyPlace) → family_place s f ≡ o → is_family_in o ≡ true
        → (b : FamilyBook) × (option_and_then (λ (q : FamilyPlace). q.held) (family_place s f) ≡ Some b) × (b.family ≡ f)
    by_place None e h = absurd (let no : false ≡ true = h in cc)
    by_place (Some p) e h = by_held p e p.held refl h

pub named_of_taken : (s : ShelfParts) → IsShelf s → (F : FootprintParts) → ((b : Book) → names F b ≡ true → is_in s b ≡ true)
    → named_in (taken_parcel s F) ≡ F
named_of_taken s is F inside =
    let keys = key_names s.keys F.keys in
    let families = family_names s.families F.families (λ f n. own_book s is f (inside (OfFamily f) n)) in
    λ i. record { keys = keys i; families = families i }

-- a named book that isn't out is in its place
pub in_place_of : (s : ShelfParts) (b : Book) → has_slot s b ≡ true → is_out s b ≡ false → is_in s b ≡ true
in_place_of s (OfKey k) slot out = by_key (key_place s k) slot out
  where
    by_key : (o : Option KeyPlace) → is_some o ≡ true → is_key_out o ≡ false → is_key_in o ≡ true
    by_key None slot out = slot
    by_key (Some p) slot out = held (is_key_held p) out
in_place_of s (OfFamily f) slot out = by_family (family_place s f) slot out
  where
    by_family : (o : Option FamilyPlace) → is_some o ≡ true → is_family_out o ≡ false → is_family_in o ≡ true
    by_family None slot out = slot
    by_family (Some p) slot out = held (is_family_held p) out
