-- What the books of a shelf are worth after a parcel was taken, and after one was given back.
use Rattle.std.proofs.Common.{◌≡◌, ℕ, List, [], ◌∷◌, ◌++◌, map, cond, Bool, true, false}
use Rattle.std.proofs.Common.{Option, Some, None, refl, sym, ap, subst, ◌∙◌, inl, inr}
use Rattle.std.specs.Prelude.{◌||◌, if◌then◌else◌, IfSome}
use Rattle.std.specs.Cmp.{IsTotalOrder}
use Rattle.std.specs.List.{flat_map, list_all}
use Rattle.std.specs.Option.{is_some, option_and_then, option_map, option_or, option_to_list}
use Rattle.std.specs.Ordering.{is_eq}
use Rattle.std.specs.declared.cmp.Ordering.{Ordering}
use Rattle.std.proofs.lemmas.Bool.{and_parts, cases_Bool}
use Rattle.std.proofs.lemmas.List.Elements.{All-contains}
use Rattle.std.proofs.lemmas.List.Sums.{AllPass-from_list_all}
use Rattle.std.proofs.lemmas.Map.Lookups.{CmpEqualImpliesEq}
use Rattle.rx_fields.specs.Order.{id_cmp, key_cmp}
use Rattle.rx_fields.specs.declared.key.Key.{Key}
use Rattle.rx_sorted.specs.Ascending.{contains_key, item_at, itself}
use Rattle.rx_sorted.proofs.Keys.{Equal-from_is_eq}
use Rattle.rx_sorted.proofs.LookUps.{item_at-found, item_at-map}
use Rattle.rx_ledger.specs.Ledger.{Ledger, empty}
use Rattle.rx_ledger.proofs.Orders.{id_exact, id_total, key_exact, key_total}
use Rattle.rx_books_family.specs.declared.key_book.KeyBook.{KeyBook}
use Rattle.rx_books_family.specs.Books.{Book, OfFamily, OfKey, book}
use Rattle.rx_books_family.specs.FamilyBook.{FamilyBook, family_of, ledger_of_family}
use Rattle.rx_books_parcel.specs.Footprints.{FootprintParts, names}
use Rattle.rx_books_parcel.specs.Parcels.{ParcelParts, family_at, key_of, named_in, values_of}
use Rattle.rx_books_parcel.proofs.Held.{family_held, key_held}
use Rattle.rx_books_family.specs.declared.place.FamilyPlace.{FamilyPlace}
use Rattle.rx_books_family.specs.declared.place.KeyPlace.{KeyPlace}
use Rattle.rx_books_family.specs.Shelves.{HoldsOwnBook, IsOwnBook, IsShelf, ShelfParts, family_place}
use Rattle.rx_books_family.specs.Shelves.{family_value_or, has_slot, is_family_in, is_family_out}
use Rattle.rx_books_family.specs.Shelves.{is_in, is_key_in, is_key_out, is_out, key_place, key_value_or}
use Rattle.rx_books_family.specs.Shelves.{place_family, place_key, row_held, value_of}
use Rattle.rx_books_shelf.specs.Taken.{are_out, held_book, family_given, family_taken, has_all, held_key, key_given, key_taken, taken_parcel}
use Rattle.rx_books_shelf.specs.Taken.{put_back, taken_out, with_book, with_row}

-- ---- names and places

-- a name of a list has what each of the list has
of_name : {K : Type 0} (cmp : K → K → Ordering) → IsTotalOrder cmp → CmpEqualImpliesEq cmp → (q : K → Bool) (ks : List K) (k : K)
    → list_all q ks ≡ true → contains_key cmp itself ks k ≡ true → q k ≡ true
of_name {K} cmp order exact q ks k all there = by_item (item_at cmp itself ks k) refl there
  where
    by_item : (o : Option K) → item_at cmp itself ks k ≡ o → is_some o ≡ true → q k ≡ true
    by_item None e h = absurd (let w : false ≡ true = h in cc)
    by_item (Some j) e h =
        let found = item_at-found cmp order itself ks k j e in
        let same : j ≡ k = exact j k found.1 in
        let each : q j ≡ true = All-contains (λ y. q y ≡ true) ks j (AllPass-from_list_all q ks all) found.0 in
        subst (λ i. q i ≡ true) same each

same_slot : {A : Type 0} (f : A → A) (o : Option A) → is_some (option_map f o) ≡ is_some o
same_slot f None = refl
same_slot f (Some p) = refl

key_stays : (ks : List Key) (p : KeyPlace) → place_key (key_taken ks p) ≡ place_key p
key_stays ks p = elim (cases_Bool (contains_key key_cmp itself ks p.key)) [ inl t ↦ rw t refl | inr n ↦ rw n refl ]

family_stays : (fs : List (List ℕ)) (p : FamilyPlace) → place_family (family_taken fs p) ≡ place_family p
family_stays fs p = elim (cases_Bool (contains_key id_cmp itself fs p.family)) [ inl t ↦ rw t refl | inr n ↦ rw n refl ]

key_stays_given : (bs : List KeyBook) (p : KeyPlace) → place_key (key_given bs p) ≡ place_key p
key_stays_given bs p = by_book (item_at key_cmp key_of bs p.key)
  where
    by_book : (o : Option KeyBook) → place_key (with_row o p) ≡ place_key p
    by_book None = refl
    by_book (Some b) = refl

family_stays_given : (bs : List FamilyBook) (p : FamilyPlace) → place_family (family_given bs p) ≡ place_family p
family_stays_given bs p = by_book (item_at id_cmp family_of bs p.family)
  where
    by_book : (o : Option FamilyBook) → place_family (with_book o p) ≡ place_family p
    by_book None = refl
    by_book (Some b) = refl

pub key_place_taken : (s : ShelfParts) (F : FootprintParts) (k : Key)
    → key_place (taken_out s F) k ≡ option_map (key_taken F.keys) (key_place s k)
key_place_taken s F k = item_at-map key_cmp key_total place_key place_key (key_taken F.keys) (key_stays F.keys) s.keys k

pub family_place_taken : (s : ShelfParts) (F : FootprintParts) (f : List ℕ)
    → family_place (taken_out s F) f ≡ option_map (family_taken F.families) (family_place s f)
family_place_taken s F f =
    item_at-map id_cmp id_total place_family place_family (family_taken F.families) (family_stays F.families) s.families f

pub key_place_given : (s : ShelfParts) (p : ParcelParts) (k : Key)
    → key_place (put_back s p) k ≡ option_map (key_given p.keys) (key_place s k)
key_place_given s p k = item_at-map key_cmp key_total place_key place_key (key_given p.keys) (key_stays_given p.keys) s.keys k

pub family_place_given : (s : ShelfParts) (p : ParcelParts) (f : List ℕ)
    → family_place (put_back s p) f ≡ option_map (family_given p.families) (family_place s f)
family_place_given s p f =
    item_at-map id_cmp id_total place_family place_family (family_given p.families) (family_stays_given p.families) s.families f

-- the place found has the name
key_named : (s : ShelfParts) (k : Key) (p : KeyPlace) → key_place s k ≡ Some p → p.key ≡ k
key_named s k p e = let found = item_at-found key_cmp key_total place_key s.keys k p e in key_exact p.key k found.1

family_named : (s : ShelfParts) (f : List ℕ) (p : FamilyPlace) → family_place s f ≡ Some p → p.family ≡ f
family_named s f p e = let found = item_at-found id_cmp id_total place_family s.families f p e in id_exact p.family f found.1

-- ---- the same places

pub slots_taken : (s : ShelfParts) (F : FootprintParts) (b : Book) → has_slot (taken_out s F) b ≡ has_slot s b
slots_taken s F (OfKey k) = ap is_some (key_place_taken s F k) ∙ same_slot (key_taken F.keys) (key_place s k)
slots_taken s F (OfFamily f) = ap is_some (family_place_taken s F f) ∙ same_slot (family_taken F.families) (family_place s f)

pub slots_given : (s : ShelfParts) (p : ParcelParts) (b : Book) → has_slot (put_back s p) b ≡ has_slot s b
slots_given s p (OfKey k) = ap is_some (key_place_given s p k) ∙ same_slot (key_given p.keys) (key_place s k)
slots_given s p (OfFamily f) = ap is_some (family_place_given s p f) ∙ same_slot (family_given p.families) (family_place s f)

-- ---- what is taken

module _ (s : ShelfParts) (F : FootprintParts) (all : has_all s F ≡ true) where
  pub named_in_place : (b : Book) → names F b ≡ true → is_in s b ≡ true
  named_in_place (OfKey k) n = let parts = and_parts _ _ all in
      of_name key_cmp key_total key_exact (λ j. is_in s (OfKey j)) F.keys k parts.0 n
  named_in_place (OfFamily f) n = let parts = and_parts _ _ all in
      of_name id_cmp id_total id_exact (λ g. is_in s (OfFamily g)) F.families f parts.1 n

  taken_key : (k : Key) (q : Option KeyPlace) → key_place s k ≡ q
      → (key_value_or (option_map (key_taken F.keys) q) (book (OfKey k) s.rest)
      ≡ cond (names F (OfKey k)) empty (key_value_or q (book (OfKey k) s.rest)))
      × (is_key_out (option_map (key_taken F.keys) q) ≡ (names F (OfKey k) || is_key_out q))
  taken_key k None e = elim (cases_Bool (names F (OfKey k))) [
    | inl t ↦ absurd (let w : false ≡ true = sym (ap is_key_in e) ∙ named_in_place (OfKey k) t in cc)
    | inr n ↦ rw n (refl, refl)
  ]
  taken_key k (Some p) e =
      let same : contains_key key_cmp itself F.keys p.key ≡ names F (OfKey k) = ap (contains_key key_cmp itself F.keys) (key_named s k
      p e) in
      elim (cases_Bool (names F (OfKey k))) [
        | inl t ↦ rw (same, t) (refl, refl)
        | inr n ↦ rw (same, n) (refl, refl)
      ]

  taken_family : (f : List ℕ) (q : Option FamilyPlace) → family_place s f ≡ q
      → (family_value_or (option_map (family_taken F.families) q) (book (OfFamily f) s.rest)
      ≡ cond (names F (OfFamily f)) empty (family_value_or q (book (OfFamily f) s.rest)))
      × (is_family_out (option_map (family_taken F.families) q) ≡ (names F (OfFamily f) || is_family_out q))
  taken_family f None e = elim (cases_Bool (names F (OfFamily f))) [
    | inl t ↦ absurd (let w : false ≡ true = sym (ap is_family_in e) ∙ named_in_place (OfFamily f) t in cc)
    | inr n ↦ rw n (refl, refl)
  ]
  taken_family f (Some p) e =
      let same : contains_key id_cmp itself F.families p.family ≡ names F (OfFamily f) =
      ap (contains_key id_cmp itself F.families) (family_named s f p e) in
      elim (cases_Bool (names F (OfFamily f))) [
        | inl t ↦ rw (same, t) (refl, refl)
        | inr n ↦ rw (same, n) (refl, refl)
      ]

  -- a book that is taken leaves nothing
  pub values_left : (b : Book) → value_of (taken_out s F) b ≡ (if names F b then empty else value_of s b)
  values_left (OfKey k) = let both = taken_key k (key_place s k) refl in
      ap (λ o. key_value_or o (book (OfKey k) s.rest)) (key_place_taken s F k) ∙ both.0
  values_left (OfFamily f) = let both = taken_family f (family_place s f) refl in
      ap (λ o. family_value_or o (book (OfFamily f) s.rest)) (family_place_taken s F f) ∙ both.0

  pub out_taken : (b : Book) → is_out (taken_out s F) b ≡ (names F b || is_out s b)
  out_taken (OfKey k) = let both = taken_key k (key_place s k) refl in ap is_key_out (key_place_taken s F k) ∙ both.1
  out_taken (OfFamily f) = let both = taken_family f (family_place s f) refl in
      ap is_family_out (family_place_taken s F f) ∙ both.1

  -- ---- the parcel

  parcel_key : (k : Key) (o : Option Key) → item_at key_cmp itself F.keys k ≡ o → (q : Option KeyPlace) → key_place s k ≡ q
      → (is_some o ≡ true → is_key_in q ≡ true) → (L : Ledger)
      → record { members = []; rows = option_to_list (option_and_then (λ (b : KeyBook). b.row) (option_map (held_key s.keys) o)) }
      ≡ cond (is_some o) (key_value_or q L) empty
  parcel_key k None e q at h L = refl
  parcel_key k (Some j) e None at h L = absurd (let w : false ≡ true = h refl in cc)
  parcel_key k (Some j) e (Some p) at h L =
      let found = item_at-found key_cmp key_total itself F.keys k j e in
      let same : item_at key_cmp place_key s.keys j ≡ Some p = ap (item_at key_cmp place_key s.keys) (key_exact j k found.1) ∙ at in
      ap (λ o. record { members = []; rows = option_to_list (option_and_then row_held o) }) same

  -- the book of a family that is found in the parcel
  parcel_family : (f : List ℕ) (q : Option FamilyPlace) → family_place s f ≡ q → (t : Bool)
      → (t ≡ true → is_family_in q ≡ true) → (L : Ledger)
      → ledger_of_family (cond t (option_and_then (λ (p : FamilyPlace). p.held) q) None) ≡ cond t (family_value_or q L) empty
  parcel_family f q at false h L = refl
  parcel_family f None at true h L = absurd (let w : false ≡ true = h refl in cc)
  parcel_family f (Some p) at true h L = refl

  module _ (is : IsShelf s) where
    -- a book that is read has its family's name
    own_name : (f : List ℕ) (b : FamilyBook) → option_and_then (λ (p : FamilyPlace). p.held) (family_place s f) ≡ Some b → b.family ≡ f
    own_name f b h = by_place (family_place s f) refl h
      where
        by_book : (p : FamilyPlace) (o : Option FamilyBook) → p.held ≡ o → o ≡ Some b → HoldsOwnBook s.period p → b.family ≡ p.family
        by_book p None e w own = absurd (cc w)
        by_book p (Some c) e w own =
            let h = subst (λ (o : Option FamilyBook). IfSome o (IsOwnBook s.period p.family)) (e ∙ w) own in h.name

        by_place : (q : Option FamilyPlace) → family_place s f ≡ q → option_and_then (λ (p : FamilyPlace). p.held) q ≡ Some b
            → b.family ≡ f
        by_place None e w = absurd (cc w)
        by_place (Some p) e w =
            let found = item_at-found id_cmp id_total place_family s.families f p e in
            by_book p p.held refl w (All-contains (HoldsOwnBook s.period) s.families p is.books_own found.0)
            ∙ id_exact p.family f found.1

    one_book : (g f : List ℕ) (o : Option FamilyBook) (rest : List FamilyBook) → ((b : FamilyBook) → o ≡ Some b → b.family ≡ g)
        → item_at id_cmp family_of (option_to_list o ++ rest) f
        ≡ cond (is_eq (id_cmp g f)) (option_or o (item_at id_cmp family_of rest f)) (item_at id_cmp family_of rest f)
    one_book g f None rest own = elim (cases_Bool (is_eq (id_cmp g f))) [ inl t ↦ rw t refl | inr n ↦ rw n refl ]
    one_book g f (Some b) rest own =
        let same : is_eq (id_cmp b.family f) ≡ is_eq (id_cmp g f) = ap (λ h. is_eq (id_cmp h f)) (own b refl) in
        elim (cases_Bool (is_eq (id_cmp g f))) [ inl t ↦ rw (same, t) refl | inr n ↦ rw (same, n) refl ]

    books_found : (fs : List (List ℕ)) (f : List ℕ)
        → item_at id_cmp family_of (flat_map (held_book s.families) fs) f
        ≡ cond (contains_key id_cmp itself fs f) (option_and_then (λ (p : FamilyPlace). p.held) (family_place s f)) None
    books_found [] f = refl
    books_found (g ∷ fs) f =
        one_book g f (option_and_then (λ (p : FamilyPlace). p.held) (family_place s g)) (flat_map (held_book s.families) fs)
        (own_name g)
        ∙ elim (cases_Bool (is_eq (id_cmp g f))) [
          | inl t ↦
              let same : g ≡ f = id_exact g f (Equal-from_is_eq _ t) in
              let read = option_and_then (λ (p : FamilyPlace). p.held) (family_place s f) in
              rw t (ap (λ h. option_or (option_and_then (λ (p : FamilyPlace). p.held) (family_place s h))
              (item_at id_cmp family_of (flat_map (held_book s.families) fs) f)) same
              ∙ ap (option_or read) (books_found fs f) ∙ either read (contains_key id_cmp itself fs f))
          | inr n ↦ rw n (books_found fs f)
        ]
      where
        either : (o : Option FamilyBook) (t : Bool) → option_or o (cond t o None) ≡ o
        either None true = refl
        either None false = refl
        either (Some b) t = refl

    -- the parcel has the values of the named books
    pub values_taken : (b : Book) → values_of (taken_parcel s F) b ≡ (if names F b then value_of s b else empty)
    values_taken (OfKey k) =
        ap (λ o. record { members = []; rows = option_to_list (option_and_then (λ (b : KeyBook). b.row) o) })
        (item_at-map key_cmp key_total itself key_of (held_key s.keys) (λ j. refl) F.keys k)
        ∙ parcel_key k (item_at key_cmp itself F.keys k) refl (key_place s k) refl (named_in_place (OfKey k)) (book (OfKey k) s.rest)
    values_taken (OfFamily f) =
        ap ledger_of_family (books_found F.families f)
        ∙ parcel_family f (family_place s f) refl (names F (OfFamily f)) (named_in_place (OfFamily f)) (book (OfFamily f) s.rest)

-- ---- what is given

module _ (s : ShelfParts) (p : ParcelParts) (out : are_out s (named_in p) ≡ true) where
  named_out : (b : Book) → names (named_in p) b ≡ true → is_out s b ≡ true
  named_out (OfKey k) n = let parts = and_parts _ _ out in
      of_name key_cmp key_total key_exact (λ j. is_out s (OfKey j)) (map key_of p.keys) k parts.0 n
  named_out (OfFamily f) n = let parts = and_parts _ _ out in
      of_name id_cmp id_total id_exact (λ g. is_out s (OfFamily g)) (map family_of p.families) f parts.1 n

  given_key : (k : Key) (q : Option KeyPlace) → key_place s k ≡ q → (o : Option KeyBook) → item_at key_cmp key_of p.keys k ≡ o
      → (is_some o ≡ true → is_key_out q ≡ true) → (L : Ledger)
      → (key_value_or (option_map (key_given p.keys) q) L
      ≡ cond (is_some o) (record { members = []; rows = option_to_list (option_and_then (λ (b : KeyBook). b.row) o) }) (key_value_or q L))
      × (is_key_out (option_map (key_given p.keys) q) ≡ cond (is_some o) false (is_key_out q))
  given_key k None e None at h L = (refl, refl)
  given_key k None e (Some b) at h L = absurd (let w : false ≡ true = h refl in cc)
  given_key k (Some r) e None at h L =
      let same : item_at key_cmp key_of p.keys r.key ≡ None = ap (item_at key_cmp key_of p.keys) (key_named s k r e) ∙ at in
      rw same (refl, refl)
  given_key k (Some r) e (Some b) at h L =
      let same : item_at key_cmp key_of p.keys r.key ≡ Some b = ap (item_at key_cmp key_of p.keys) (key_named s k r e) ∙ at in
      rw same (refl, refl)

  given_family : (f : List ℕ) (q : Option FamilyPlace) → family_place s f ≡ q → (o : Option FamilyBook) → family_at p f ≡ o
      → (is_some o ≡ true → is_family_out q ≡ true) → (L : Ledger)
      → (family_value_or (option_map (family_given p.families) q) L ≡ cond (is_some o) (ledger_of_family o) (family_value_or q L))
      × (is_family_out (option_map (family_given p.families) q) ≡ cond (is_some o) false (is_family_out q))
  given_family f None e None at h L = (refl, refl)
  given_family f None e (Some b) at h L = absurd (let w : false ≡ true = h refl in cc)
  given_family f (Some r) e None at h L =
      let same : family_at p r.family ≡ None = ap (family_at p) (family_named s f r e) ∙ at in
      rw same (refl, refl)
  given_family f (Some r) e (Some b) at h L =
      let same : family_at p r.family ≡ Some b = ap (family_at p) (family_named s f r e) ∙ at in
      rw same (refl, refl)

  both_key : (k : Key)
      → (key_value_or (option_map (key_given p.keys) (key_place s k)) (book (OfKey k) s.rest)
      ≡ cond (names (named_in p) (OfKey k)) (values_of p (OfKey k)) (value_of s (OfKey k)))
      × (is_key_out (option_map (key_given p.keys) (key_place s k)) ≡ cond (names (named_in p) (OfKey k)) false (is_out s (OfKey k)))
  both_key k = rw (key_held p k) (given_key k (key_place s k) refl (item_at key_cmp key_of p.keys k) refl
      (λ n. named_out (OfKey k) (key_held p k ∙ n)) (book (OfKey k) s.rest))

  both_family : (f : List ℕ)
      → (family_value_or (option_map (family_given p.families) (family_place s f)) (book (OfFamily f) s.rest)
      ≡ cond (names (named_in p) (OfFamily f)) (values_of p (OfFamily f)) (value_of s (OfFamily f)))
      × (is_family_out (option_map (family_given p.families) (family_place s f)) ≡ cond (names (named_in p) (OfFamily f)) false (is_out
      s (OfFamily f)))
  both_family f = rw (family_held p f) (given_family f (family_place s f) refl (family_at p f) refl
      (λ n. named_out (OfFamily f) (family_held p f ∙ n)) (book (OfFamily f) s.rest))

  pub values_given : (b : Book) → value_of (put_back s p) b ≡ (if names (named_in p) b then values_of p b else value_of s b)
  values_given (OfKey k) = let both = both_key k in
      ap (λ o. key_value_or o (book (OfKey k) s.rest)) (key_place_given s p k) ∙ both.0
  values_given (OfFamily f) = let both = both_family f in
      ap (λ o. family_value_or o (book (OfFamily f) s.rest)) (family_place_given s p f) ∙ both.0

  pub out_given : (b : Book) → is_out (put_back s p) b ≡ (if names (named_in p) b then false else is_out s b)
  out_given (OfKey k) = let both = both_key k in ap is_key_out (key_place_given s p k) ∙ both.1
  out_given (OfFamily f) = let both = both_family f in ap is_family_out (family_place_given s p f) ∙ both.1
