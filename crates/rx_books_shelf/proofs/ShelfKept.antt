-- What a shelf keeps, after a parcel was taken and after one was given; and what is taken makes a parcel.
use Rattle.std.proofs.Common.{◌≡◌, ℕ, List, [], ◌∷◌, ◌++◌, map, Bool, true, false, not, Option}
use Rattle.std.proofs.Common.{Some, None, refl, sym, ap, subst, ◌∙◌, inl, inr}
use Rattle.std.specs.Prelude.{◌&&◌, IfSome}
use Rattle.std.specs.List.{All, Contains, flat_map, list_all}
use Rattle.std.specs.Option.{option_and_then, option_to_list}
use Rattle.std.specs.declared.cmp.Ordering.{Ordering}
use Rattle.std.specs.declared.cmp.Ordering.TheVariants.{Less}
use Rattle.std.proofs.lemmas.Bool.{cases_Bool}
use Rattle.std.proofs.lemmas.List.Elements.{All-append, All-cons, All-contains, All-head, All-nil, All-tail, All-weaker}
use Rattle.rx_fields.specs.Numbered.{Span}
use Rattle.rx_fields.specs.Order.{id_cmp, key_cmp}
use Rattle.rx_fields.specs.declared.key.Key.{Key}
use Rattle.rx_fields.specs.contracts.period.PeriodPartialEq.TheImpl.{ghosts as period}
use Rattle.rx_sorted.specs.Ascending.{IsAscending, IsBelow, contains_key, item_at, itself}
use Rattle.rx_sorted.proofs.Keys.{IsBelow-append}
use Rattle.rx_sorted.proofs.LookUps.{item_at-found}
use Rattle.rx_ledger.specs.declared.row.Row.{Row}
use Rattle.rx_ledger.proofs.Decided.{period_decides}
use Rattle.rx_ledger.proofs.Orders.{id_exact, id_total, key_exact, key_total}
use Rattle.rx_books_family.specs.declared.key_book.KeyBook.{KeyBook}
use Rattle.rx_books_family.specs.Books.{OfFamily, OfKey}
use Rattle.rx_books_family.specs.FamilyBook.{FamilyBook, IsOwn, family_of}
use Rattle.rx_books_parcel.specs.Footprints.{FootprintParts}
use Rattle.rx_books_parcel.specs.Parcels.{HasOwnRow, IsParcel, ParcelParts, key_of, named_in}
use Rattle.rx_books_store.specs.LedgerBooks.{LedgerBooks}
use Rattle.rx_books_family.specs.declared.place.FamilyPlace.{FamilyPlace}
use Rattle.rx_books_family.specs.declared.place.KeyPlace.{KeyPlace}
use Rattle.rx_books_family.specs.Shelves.{HoldsOwnBook, HoldsOwnRow, IsOwnBook, IsShelf, ShelfParts, is_family_out, is_key_out}
use Rattle.rx_books_family.specs.Shelves.{is_out, place_family, place_key, row_held}
use Rattle.rx_books_shelf.specs.Closed.{HasSlot}
use Rattle.rx_books_shelf.specs.Taken.{are_out, held_book, family_given, family_taken, held_key, key_given, key_taken, taken_parcel}
use Rattle.rx_books_shelf.specs.Taken.{put_back, taken_out, with_book, with_row}

-- ---- lists of places

All-changed : {A : Type 0} (P : A → Type 0) (f : A → A) → ((x : A) → P x → P (f x)) → (xs : List A) → All P xs → All P (map f xs)
All-changed P f h [] all = All-nil P
All-changed P f h (x ∷ xs) all =
    All-cons P (f x) (map f xs) (h x (All-head P x xs all)) (All-changed P f h xs (All-tail P x xs all))

module _ {A B K : Type 0} (cmp : K → K → Ordering) (key : A → K) (name : B → K) (f : A → B) (keeps : (x : A) → name (f x) ≡ key x) where
  below_changed : (k : K) (xs : List A) → IsBelow cmp key k xs → IsBelow cmp name k (map f xs)
  below_changed k [] b = tt
  below_changed k (x ∷ xs) b = (ap (cmp k) (keeps x) ∙ b.0, below_changed k xs b.1)

  pub ascending_changed : (xs : List A) → IsAscending cmp key xs → IsAscending cmp name (map f xs)
  ascending_changed [] a = tt
  ascending_changed (x ∷ xs) a =
      (subst (λ k. IsBelow cmp name k (map f xs)) (sym (keeps x)) (below_changed (key x) xs a.0), ascending_changed xs a.1)

-- ---- a place that is written

key_stays : (ks : List Key) (p : KeyPlace) → place_key (key_taken ks p) ≡ place_key p
key_stays ks p = elim (cases_Bool (contains_key key_cmp itself ks p.key)) [ inl t ↦ rw t refl | inr n ↦ rw n refl ]

family_stays : (fs : List (List ℕ)) (p : FamilyPlace) → place_family (family_taken fs p) ≡ place_family p
family_stays fs p = elim (cases_Bool (contains_key id_cmp itself fs p.family)) [ inl t ↦ rw t refl | inr n ↦ rw n refl ]

row_stays_own : (ks : List Key) (p : KeyPlace) → HoldsOwnRow p → HoldsOwnRow (key_taken ks p)
row_stays_own ks p own = elim (cases_Bool (contains_key key_cmp itself ks p.key)) [ inl t ↦ rw t tt | inr n ↦ rw n own ]

book_stays_own : (period : Span) (fs : List (List ℕ)) (p : FamilyPlace) → HoldsOwnBook period p → HoldsOwnBook period (family_taken fs p)
book_stays_own period fs p own =
    elim (cases_Bool (contains_key id_cmp itself fs p.family)) [ inl t ↦ rw t tt | inr n ↦ rw n own ]

pub shelf_taken : (s : ShelfParts) (F : FootprintParts) → IsShelf s → IsShelf (taken_out s F)
shelf_taken s F is = record {
  rest_in_order = is.rest_in_order;
  keys_rise = ascending_changed key_cmp place_key place_key (key_taken F.keys) (key_stays F.keys) s.keys is.keys_rise;
  families_rise = ascending_changed id_cmp place_family place_family (family_taken F.families) (family_stays F.families) s.families
      is.families_rise;
  rows_own = All-changed HoldsOwnRow (key_taken F.keys) (row_stays_own F.keys) s.keys is.rows_own;
  books_own = All-changed (HoldsOwnBook s.period) (family_taken F.families) (book_stays_own s.period F.families) s.families is.books_own;
}

-- ---- a place that is filled

module _ (s : ShelfParts) (p : ParcelParts) (is : IsShelf s) (books : IsParcel p) (period : p.period ≡ s.period) where
  row_given_own : (r : KeyPlace) → HoldsOwnRow r → HoldsOwnRow (key_given p.keys r)
  row_given_own r own = by_book (item_at key_cmp key_of p.keys r.key) refl
    where
      by_book : (o : Option KeyBook) → item_at key_cmp key_of p.keys r.key ≡ o → HoldsOwnRow (with_row o r)
      by_book None e = own
      by_book (Some b) e =
          let found = item_at-found key_cmp key_total key_of p.keys r.key b e in
          subst (λ k. IfSome b.row (λ x. x.key ≡ k)) (key_exact b.key r.key found.1)
          (All-contains HasOwnRow p.keys b books.rows_own found.0)

  book_given_own : (r : FamilyPlace) → HoldsOwnBook s.period r → HoldsOwnBook s.period (family_given p.families r)
  book_given_own r own = by_book (item_at id_cmp family_of p.families r.family) refl
    where
      by_book : (o : Option FamilyBook) → item_at id_cmp family_of p.families r.family ≡ o → HoldsOwnBook s.period (with_book o r)
      by_book None e = own
      by_book (Some b) e =
          let found = item_at-found id_cmp id_total family_of p.families r.family b e in
          record {
            name = id_exact b.family r.family found.1;
            period_same = All-contains (λ (c : FamilyBook). c.period ≡ p.period) p.families b books.one_period found.0 ∙ period;
            own = All-contains IsOwn p.families b books.families_own found.0;
          }

  key_stays_given : (r : KeyPlace) → place_key (key_given p.keys r) ≡ place_key r
  key_stays_given r = by_book (item_at key_cmp key_of p.keys r.key)
    where
      by_book : (o : Option KeyBook) → place_key (with_row o r) ≡ place_key r
      by_book None = refl
      by_book (Some b) = refl

  family_stays_given : (r : FamilyPlace) → place_family (family_given p.families r) ≡ place_family r
  family_stays_given r = by_book (item_at id_cmp family_of p.families r.family)
    where
      by_book : (o : Option FamilyBook) → place_family (with_book o r) ≡ place_family r
      by_book None = refl
      by_book (Some b) = refl

  pub shelf_given : IsShelf (put_back s p)
  shelf_given = record {
    rest_in_order = is.rest_in_order;
    keys_rise = ascending_changed key_cmp place_key place_key (key_given p.keys) key_stays_given s.keys is.keys_rise;
    families_rise = ascending_changed id_cmp place_family place_family (family_given p.families) family_stays_given s.families
        is.families_rise;
    rows_own = All-changed HoldsOwnRow (key_given p.keys) row_given_own s.keys is.rows_own;
    books_own = All-changed (HoldsOwnBook s.period) (family_given p.families) book_given_own s.families is.books_own;
  }

-- ---- the parcel that is taken

pub keys_rise : (ps : List KeyPlace) (ks : List Key) → IsAscending key_cmp itself ks → IsAscending key_cmp key_of (map (held_key ps) ks)
keys_rise ps ks rise = ascending_changed key_cmp itself key_of (held_key ps) (λ k. refl) ks rise

pub rows_own : (ps : List KeyPlace) (ks : List Key) → All HoldsOwnRow ps → All HasOwnRow (map (held_key ps) ks)
rows_own ps [] own = All-nil HasOwnRow
rows_own ps (k ∷ ks) own =
    All-cons HasOwnRow (held_key ps k) (map (held_key ps) ks) (by_place (item_at key_cmp place_key ps k) refl) (rows_own ps ks own)
  where
    by_place : (o : Option KeyPlace) → item_at key_cmp place_key ps k ≡ o → IfSome (option_and_then row_held o) (λ (r : Row). r.key ≡ k)
    by_place None e = tt
    by_place (Some p) e =
        let found = item_at-found key_cmp key_total place_key ps k p e in
        subst (λ j. IfSome (row_held p) (λ (r : Row). r.key ≡ j)) (key_exact p.key k found.1)
        (All-contains HoldsOwnRow ps p own found.0)

module _ (period : Span) (ps : List FamilyPlace) (own : All (HoldsOwnBook period) ps) where
  -- each book that is read
  read_own : (f : List ℕ) → All (IsOwnBook period f) (held_book ps f)
  read_own f = by_place (item_at id_cmp place_family ps f) refl
    where
      by_book : (g : List ℕ) (o : Option FamilyBook) → IfSome o (IsOwnBook period g) → All (IsOwnBook period g) (option_to_list o)
      by_book g None h = All-nil (IsOwnBook period g)
      by_book g (Some b) h = All-cons (IsOwnBook period g) b [] h (All-nil (IsOwnBook period g))

      by_place : (o : Option FamilyPlace) → item_at id_cmp place_family ps f ≡ o
          → All (IsOwnBook period f) (option_to_list (option_and_then (λ (p : FamilyPlace). p.held) o))
      by_place None e = All-nil (IsOwnBook period f)
      by_place (Some p) e =
          let found = item_at-found id_cmp id_total place_family ps f p e in
          subst (λ g. All (IsOwnBook period g) (option_to_list p.held)) (id_exact p.family f found.1)
          (by_book p.family p.held (All-contains (HoldsOwnBook period) ps p own found.0))

  pub one_period : (fs : List (List ℕ)) → All (λ (b : FamilyBook). b.period ≡ period) (flat_map (held_book ps) fs)
  one_period [] = All-nil _
  one_period (f ∷ fs) =
      let P : FamilyBook → Type 0 = λ b. b.period ≡ period in
      All-append P (held_book ps f) (flat_map (held_book ps) fs)
      (All-weaker (IsOwnBook period f) P (λ b h. h.period_same) (held_book ps f) (read_own f)) (one_period fs)

  pub books_own : (fs : List (List ℕ)) → All IsOwn (flat_map (held_book ps) fs)
  books_own [] = All-nil IsOwn
  books_own (f ∷ fs) =
      All-append IsOwn (held_book ps f) (flat_map (held_book ps) fs)
      (All-weaker (IsOwnBook period f) IsOwn (λ b h. h.own) (held_book ps f) (read_own f)) (books_own fs)

  -- the books below a name
  below_read : (k : List ℕ) (f : List ℕ) (bs : List FamilyBook) → id_cmp k f ≡ Less → All (IsOwnBook period f) bs
      → IsBelow id_cmp family_of k bs
  below_read k f [] less all = tt
  below_read k f (b ∷ bs) less all =
      let first = All-head (IsOwnBook period f) b bs all in
      (ap (id_cmp k) first.name ∙ less, below_read k f bs less (All-tail (IsOwnBook period f) b bs all))

  below_all : (k : List ℕ) (fs : List (List ℕ)) → IsBelow id_cmp itself k fs → IsBelow id_cmp family_of k (flat_map (held_book ps) fs)
  below_all k [] b = tt
  below_all k (f ∷ fs) b = IsBelow-append id_cmp id_total family_of k (held_book ps f) (flat_map (held_book ps) fs)
      (below_read k f (held_book ps f) b.0 (read_own f)) (below_all k fs b.1)

  before : (f : List ℕ) (o : Option FamilyBook) (rest : List FamilyBook) → All (IsOwnBook period f) (option_to_list o)
      → IsBelow id_cmp family_of f rest → IsAscending id_cmp family_of rest → IsAscending id_cmp family_of (option_to_list o ++ rest)
  before f None rest all below rise = rise
  before f (Some b) rest all below rise =
      let first = All-head (IsOwnBook period f) b [] all in
      (subst (λ k. IsBelow id_cmp family_of k rest) (sym first.name) below, rise)

  pub families_rise : (fs : List (List ℕ)) → IsAscending id_cmp itself fs → IsAscending id_cmp family_of (flat_map (held_book ps) fs)
  families_rise [] a = tt
  families_rise (f ∷ fs) a = before f (option_and_then (λ (p : FamilyPlace). p.held) (item_at id_cmp place_family ps f))
      (flat_map (held_book ps) fs) (read_own f) (below_all f fs a.0) (families_rise fs a.1)

pub parcel_own : (s : ShelfParts) (F : FootprintParts) → IsShelf s → IsAscending key_cmp itself F.keys
    → IsAscending id_cmp itself F.families → IsParcel (taken_parcel s F)
parcel_own s F is keys families = record {
  keys_rise = keys_rise s.keys F.keys keys;
  families_rise = families_rise s.period s.families is.books_own F.families families;
  rows_own = rows_own s.keys F.keys is.rows_own;
  families_own = books_own s.period s.families is.books_own F.families;
  one_period = one_period s.period s.families is.books_own F.families;
}

-- ---- the parts of a shelf and of a parcel

abbrev pub shelf_parts : LedgerBooks → List KeyPlace → List FamilyPlace → ShelfParts
shelf_parts b keys families = record { period = b.period; rest = b.ledger; keys = keys; families = families }

pub taken_parts : (s : ShelfParts) (F : FootprintParts) (ks : List Key) (fs : List (List ℕ)) (places : List KeyPlace)
    (others : List FamilyPlace)
    → ks ≡ F.keys → fs ≡ F.families → places ≡ map (key_taken ks) s.keys → others ≡ map (family_taken fs) s.families
    → record { period = s.period; rest = s.rest; keys = places; families = others } ≡ taken_out s F
taken_parts s F ks fs places others ek ef pk pf =
    let k : places ≡ map (key_taken F.keys) s.keys = pk ∙ ap (λ xs. map (key_taken xs) s.keys) ek in
    let f : others ≡ map (family_taken F.families) s.families = pf ∙ ap (λ xs. map (family_taken xs) s.families) ef in
    λ i. record { period = s.period; rest = s.rest; keys = k i; families = f i }

pub parcel_parts : (s : ShelfParts) (F : FootprintParts) (p : ParcelParts) (period : Span) (ks : List Key) (fs : List (List ℕ))
    (keys : List KeyBook) (families : List FamilyBook) → p ≡ record { period = period; keys = keys; families = families }
    → period ≡ s.period → ks ≡ F.keys → fs ≡ F.families → keys ≡ map (held_key s.keys) ks
    → families ≡ flat_map (held_book s.families) fs → p ≡ taken_parcel s F
parcel_parts s F p period ks fs keys families is ep ek ef bk bf =
    let k : keys ≡ map (held_key s.keys) F.keys = bk ∙ ap (map (held_key s.keys)) ek in
    let f : families ≡ flat_map (held_book s.families) F.families = bf ∙ ap (flat_map (held_book s.families)) ef in
    is ∙ (λ i. record { period = ep i; keys = k i; families = f i })

pub given_parts : (s : ShelfParts) (p : ParcelParts) (ks : List KeyBook) (fs : List FamilyBook) (places : List KeyPlace)
    (others : List FamilyPlace)
    → ks ≡ p.keys → fs ≡ p.families → places ≡ map (key_given ks) s.keys → others ≡ map (family_given fs) s.families
    → record { period = s.period; rest = s.rest; keys = places; families = others } ≡ put_back s p
given_parts s p ks fs places others ek ef pk pf =
    let k : places ≡ map (key_given p.keys) s.keys = pk ∙ ap (λ xs. map (key_given xs) s.keys) ek in
    let f : others ≡ map (family_given p.families) s.families = pf ∙ ap (λ xs. map (family_given xs) s.families) ef in
    λ i. record { period = s.period; rest = s.rest; keys = k i; families = f i }

-- each book of a parcel is out, where each of its names is
all_named : {A K : Type 0} (q : K → Bool) (key : A → K) (xs : List A) → list_all q (map key xs) ≡ list_all (λ x. q (key x)) xs
all_named q key [] = refl
all_named q key (x ∷ xs) = ap (λ t. q (key x) && t) (all_named q key xs)

pub named_out_first : (s : ShelfParts) (p : ParcelParts) (ks : List KeyBook) (fs : List FamilyBook) (one two : Bool) → ks ≡ p.keys
    → fs ≡ p.families
    → one ≡ list_all (λ b. is_key_out (item_at key_cmp place_key s.keys b.key)) ks
    → two ≡ list_all (λ b. is_family_out (item_at id_cmp place_family s.families b.family)) fs
    → (one && two) ≡ are_out s (named_in p)
named_out_first s p ks fs one two ek ef a b =
    let first : one ≡ list_all (λ k. is_out s (OfKey k)) (map key_of p.keys) =
    a ∙ ap (list_all (λ b. is_key_out (item_at key_cmp place_key s.keys b.key))) ek
    ∙ sym (all_named (λ k. is_out s (OfKey k)) key_of p.keys) in
    let second : two ≡ list_all (λ f. is_out s (OfFamily f)) (map family_of p.families) =
    b ∙ ap (list_all (λ b. is_family_out (item_at id_cmp place_family s.families b.family))) ef
    ∙ sym (all_named (λ f. is_out s (OfFamily f)) family_of p.families) in
    λ i. first i && second i

-- periods that are not told apart
pub same_period : (a b : Span) (told : Bool) → told ≡ not (period.eq a b) → told ≡ false → a ≡ b
same_period a b told is no_more = let d = period_decides a b in d.0 (from_not (period.eq a b) (sym is ∙ no_more))
  where
    from_not : (t : Bool) → not t ≡ false → t ≡ true
    from_not true h = refl
    from_not false h = cc

-- the keys of places keep their slots
pub slots_stay : (slots : List Key) (ks : List Key) (ps : List KeyPlace) → All (HasSlot slots) ps
    → All (HasSlot slots) (map (key_taken ks) ps)
slots_stay slots ks ps all =
    All-changed (HasSlot slots) (key_taken ks) (λ p h. subst (Contains slots) (sym (key_stays ks p)) h) ps all

pub slots_stay_given : (slots : List Key) (bs : List KeyBook) (ps : List KeyPlace) → All (HasSlot slots) ps
    → All (HasSlot slots) (map (key_given bs) ps)
slots_stay_given slots bs ps all = All-changed (HasSlot slots) (key_given bs) one ps all
  where
    one : (p : KeyPlace) → HasSlot slots p → HasSlot slots (key_given bs p)
    one p h = by_book (item_at key_cmp key_of bs p.key)
      where
        by_book : (o : Option KeyBook) → HasSlot slots (with_row o p)
        by_book None = h
        by_book (Some b) = h
