-- The places of keys and of families of which books are taken and to which they are given back, in the words of a shelf.
use Rattle.std.proofs.Common.{◌≡◌, ℕ, Bool, true, false, not, List, [], ◌∷◌, ◌++◌, map, Option, Some, None, refl, ap, ◌∙◌}
use Rattle.std.specs.List.{flat_map, list_all}
use Rattle.std.specs.Option.{is_some, option_and_then, option_map, option_to_list}
use Rattle.std.proofs.lemmas.Bool.{and_parts}
use Rattle.rx_fields.specs.Order.{id_cmp, key_cmp}
use Rattle.rx_fields.specs.declared.key.Key.{Key}
use Rattle.rx_sorted.specs.Ascending.{item_at}
use Rattle.rx_sorted.proofs.LookUps.{item_at-found}
use Rattle.rx_ledger.specs.declared.row.Row.{Row}
use Rattle.rx_ledger.proofs.Orders.{key_exact, key_total}
use Rattle.rx_books_family.specs.declared.key_book.KeyBook.{KeyBook}
use Rattle.rx_books_family.specs.FamilyBook.{FamilyBook, family_of}
use Rattle.rx_books_parcel.specs.Footprints.{FootprintParts}
use Rattle.rx_books_parcel.specs.Parcels.{key_of}
use Rattle.rx_books_family.specs.declared.place.FamilyPlace.{FamilyPlace}
use Rattle.rx_books_family.specs.declared.place.KeyPlace.{KeyPlace}
use Rattle.rx_sorted.specs.Slots.{content_at, filled_of, is_in, is_out, with_content as filled_with}
use Rattle.rx_books_family.specs.Shelves.{ShelfParts, is_family_in, is_family_out, is_key_in, is_key_out, place_family, place_key, row_held}
use Rattle.rx_sorted.proofs.AllSlots.{map_same}
use Rattle.rx_books_shelf.specs.Taken.{family_given, has_all, held_key, key_given, with_book, with_row}

all_same : {A : Type 0} (p q : A → Bool) → ((x : A) → p x ≡ q x) → (xs : List A) → list_all p xs ≡ list_all q xs
all_same p q same [] = refl
all_same p q same (x ∷ xs) = let one = same x in let rest = all_same p q same xs in cc

-- ---- keys

abbrev pub key_held : KeyPlace → Option KeyBook
key_held p = option_map (λ r. record { key = p.key; row = r }) p.held

abbrev pub key_filled : KeyBook → KeyPlace → KeyPlace
key_filled b p = record p { held = Some b.row }

key_in : (o : Option KeyPlace) → is_in key_held o ≡ is_key_in o
key_in None = refl
key_in (Some p) = by_held p.key p.held
  where
    by_held : (k : Key) (h : Option (Option Row)) → is_some (key_held (record { key = k; held = h })) ≡ is_some h
    by_held k None = refl
    by_held k (Some r) = refl

key_out : (o : Option KeyPlace) → is_out key_held o ≡ is_key_out o
key_out None = refl
key_out (Some p) = ap not (key_in (Some p))

pub keys_in : (ps : List KeyPlace) (ks : List Key)
    → list_all (λ k. is_in key_held (item_at key_cmp place_key ps k)) ks ≡ list_all (λ k. is_key_in (item_at key_cmp place_key ps k)) ks
keys_in ps = all_same _ _ (λ k. key_in (item_at key_cmp place_key ps k))

pub keys_out : (ps : List KeyPlace) (bs : List KeyBook)
    → list_all (λ b. is_out key_held (item_at key_cmp place_key ps (key_of b))) bs
    ≡ list_all (λ (b : KeyBook). is_key_out (item_at key_cmp place_key ps b.key)) bs
keys_out ps = all_same _ _ (λ (b : KeyBook). key_out (item_at key_cmp place_key ps b.key))

-- a key's book is read off its place, which holds it
key_read : (ps : List KeyPlace) (k : Key) → is_key_in (item_at key_cmp place_key ps k) ≡ true
    → content_at key_cmp place_key key_held ps k ≡ held_key ps k ∷ []
key_read ps k there = by_place (item_at key_cmp place_key ps k) refl there
  where
    by_held : (j : Key) (h : Option (Option Row)) → j ≡ k → is_some h ≡ true
        → option_to_list {X = KeyBook} (option_map (λ (r : Option Row). record { key = j; row = r }) h)
        ≡ record { key = k; row = option_and_then (λ (r : Option Row). r) h } ∷ []
    by_held j None same held = absurd (let e : false ≡ true = held in cc)
    by_held j (Some r) same held = ap (λ (i : Key). record { key = i; row = r } ∷ []) same

    by_place : (o : Option KeyPlace) → item_at key_cmp place_key ps k ≡ o → is_key_in o ≡ true
        → option_to_list {X = KeyBook} (option_and_then key_held o) ≡ record { key = k; row = option_and_then row_held o } ∷ []
    by_place None e held = absurd (let f : false ≡ true = held in cc)
    by_place (Some p) e held =
        let found = item_at-found key_cmp key_total place_key ps k p e in
        by_held p.key p.held (key_exact p.key k found.1) held

pub keys_read : (ps : List KeyPlace) (ks : List Key) → list_all (λ k. is_key_in (item_at key_cmp place_key ps k)) ks ≡ true
    → flat_map (content_at key_cmp place_key key_held ps) ks ≡ map (held_key ps) ks
keys_read ps [] there = refl
keys_read ps (k ∷ ks) there =
    let parts = and_parts _ _ there in
    let first = key_read ps k parts.0 in
    let rest = keys_read ps ks parts.1 in
    ap (λ bs. bs ++ flat_map (content_at key_cmp place_key key_held ps) ks) first ∙ ap (λ bs. held_key ps k ∷ bs) rest

pub keys_put : (bs : List KeyBook) (ps : List KeyPlace)
    → map (filled_of key_cmp place_key key_of key_filled bs) ps ≡ map (key_given bs) ps
keys_put bs ps = map_same _ _ (λ p. by_book (item_at key_cmp key_of bs p.key) p) ps
  where
    by_book : (o : Option KeyBook) (p : KeyPlace) → filled_with key_filled o p ≡ with_row o p
    by_book None p = refl
    by_book (Some b) p = refl

-- ---- families

abbrev pub family_held : FamilyPlace → Option FamilyBook
family_held p = p.held

abbrev pub family_filled : FamilyBook → FamilyPlace → FamilyPlace
family_filled b p = record p { held = Some b }

family_in : (o : Option FamilyPlace) → is_in family_held o ≡ is_family_in o
family_in None = refl
family_in (Some p) = refl

family_out : (o : Option FamilyPlace) → is_out family_held o ≡ is_family_out o
family_out None = refl
family_out (Some p) = refl

pub families_in : (ps : List FamilyPlace) (fs : List (List ℕ))
    → list_all (λ f. is_in family_held (item_at id_cmp place_family ps f)) fs
    ≡ list_all (λ f. is_family_in (item_at id_cmp place_family ps f)) fs
families_in ps = all_same _ _ (λ f. family_in (item_at id_cmp place_family ps f))

pub families_out : (ps : List FamilyPlace) (bs : List FamilyBook)
    → list_all (λ b. is_out family_held (item_at id_cmp place_family ps (family_of b))) bs
    ≡ list_all (λ (b : FamilyBook). is_family_out (item_at id_cmp place_family ps b.family)) bs
families_out ps = all_same _ _ (λ (b : FamilyBook). family_out (item_at id_cmp place_family ps b.family))

pub families_put : (bs : List FamilyBook) (ps : List FamilyPlace)
    → map (filled_of id_cmp place_family family_of family_filled bs) ps ≡ map (family_given bs) ps
families_put bs ps = map_same _ _ (λ p. by_book (item_at id_cmp family_of bs p.family) p) ps
  where
    by_book : (o : Option FamilyBook) (p : FamilyPlace) → filled_with family_filled o p ≡ with_book o p
    by_book None p = refl
    by_book (Some b) p = refl

-- ---- a footprint's books that are all in

pub keys_all_in : (s : ShelfParts) (F : FootprintParts) (ks : List Key) → ks ≡ F.keys → has_all s F ≡ true
    → list_all (λ k. is_key_in (item_at key_cmp place_key s.keys k)) ks ≡ true
keys_all_in s F ks e all =
    let parts = and_parts _ _ all in
    ap (list_all (λ k. is_key_in (item_at key_cmp place_key s.keys k))) e ∙ parts.0
