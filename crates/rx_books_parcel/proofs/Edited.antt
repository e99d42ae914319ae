-- What a row more or a row less in the books of a parcel does to the ledger of its books.
use Rattle.std.proofs.Common.{◌≡◌, ℕ, List, [], ◌∷◌, map, true, false, cond, Option, Some, None, refl, sym, ap, subst, ◌∙◌, inl, inr}
use Rattle.std.specs.List.{filter}
use Rattle.std.specs.Cmp.{IsTotalOrder}
use Rattle.std.specs.Option.{is_some, option_and_then, option_map, option_to_list}
use Rattle.std.specs.Ordering.{is_eq}
use Rattle.std.specs.declared.cmp.Ordering.{Ordering}
use Rattle.std.proofs.lemmas.Bool.{cases_Bool}
use Rattle.std.proofs.lemmas.Cmp.{tied_back}
use Rattle.std.proofs.lemmas.Map.Lookups.{CmpEqualImpliesEq}
use Rattle.rx_fields.specs.Order.{id_cmp, key_cmp}
use Rattle.rx_fields.specs.declared.key.Key.{Key}
use Rattle.rx_sorted.specs.Ascending.{IsAscending, contains_key, has_key, item_at, put, without}
use Rattle.rx_sorted.proofs.FilteredPuts.{filter-put, filter-put_free, filter-without, filter-without_refused}
use Rattle.rx_sorted.proofs.Keys.{Equal-from_is_eq, Less-from_Greater, IsBelow-through, cases_Ordering, is_eq-turned, item_at-below}
use Rattle.rx_sorted.proofs.Kept.{IsAscending-put, IsAscending-without}
use Rattle.rx_sorted.proofs.LookUps.{item_at-put}
use Rattle.rx_ledger.specs.declared.row.Row.{Row}
use Rattle.rx_ledger.specs.Ledger.{Ledger, row_under, with_row, without_row}
use Rattle.rx_ledger.specs.Members.{is_same}
use Rattle.rx_ledger.specs.Rows.{row_key}
use Rattle.rx_ledger.proofs.Orders.{id_exact, id_total, key_exact, key_total}
use Rattle.rx_books_family.specs.declared.key_book.KeyBook.{KeyBook}
use Rattle.rx_books_family.specs.Books.{Book, IsInOrder, OfFamily, OfKey, book, has_row}
use Rattle.rx_books_family.specs.FamilyBook.{FamilyBook, book_with_row, book_without_row, family_of, ledger_of_family, own_ledger}
use Rattle.rx_books_parcel.specs.Footprints.{AreAgreed, names, sub}
use Rattle.rx_books_parcel.specs.Parcels.{Agrees, IsParcel, ParcelParts, family_at, family_without, key_of, ledger_in}
use Rattle.rx_books_parcel.specs.Parcels.{named_in, parcel_with_row, parcel_without_row, row_at, values_of, with_family_book}
use Rattle.rx_books_parcel.proofs.Agreed.{books_agree, order_of_sub, sub_is, whole_of_sub}
use Rattle.rx_books_parcel.proofs.Held.{book_held, books_are, family_found, family_held, key_held, row_found, row_read}
use Rattle.rx_books_family.proofs.BookValues.{ledger_path}
use Rattle.rx_books_parcel.proofs.Parts.{keeps, key_kept, part}

-- ---- names stay

-- an item that is written over the one with its key has the same key
keys_stay : {X K : Type 0} (cmp : K → K → Ordering) → IsTotalOrder cmp → CmpEqualImpliesEq cmp → (key : X → K)
    → (xs : List X) (x : X) → IsAscending cmp key xs → contains_key cmp key xs (key x) ≡ true
    → map key (put cmp key xs x) ≡ map key xs
keys_stay cmp order exact key [] x a there = absurd (let e : false ≡ true = there in cc)
keys_stay cmp order exact key (y ∷ ys) x a there = elim (cases_Ordering (cmp (key y) (key x))) [
  | inl less ↦ rw less (ap (λ ks. key y ∷ ks) (keys_stay cmp order exact key ys x a.1 (rw less at there)))
  | inr (inl tied) ↦ rw tied (ap (λ k. k ∷ map key ys) (sym (exact (key y) (key x) tied)))
  | inr (inr more) ↦
      let none = item_at-below cmp order key (key x) ys
      (IsBelow-through cmp order key (key x) (key y) ys (Less-from_Greater cmp order key (key y) (key x) more) a.0) in
      absurd (let e : false ≡ true = sym (ap is_some none) ∙ rw more at there in cc)
]

-- ---- one row more

module _ (p : ParcelParts) (is : IsParcel p) (agreed : Agrees p) where
  abbrev L : Ledger
  L = ledger_in p

  order : IsInOrder L
  order = order_of_sub (named_in p) (values_of p)

  whole : part (named_in p) L ≡ L
  whole = whole_of_sub (named_in p) (values_of p) (books_are p is agreed)

  module _ (r : Row) (nk : names (named_in p) (OfKey r.key) ≡ true) (nf : names (named_in p) (OfFamily r.family) ≡ true)
      (free : row_at p r.key ≡ None) where
    abbrev q : ParcelParts
    q = parcel_with_row p r

    abbrev S : Ledger
    S = with_row L r

    nothing_under : row_under L r.key ≡ None
    nothing_under = row_read p is agreed r.key nk ∙ free

    added_key : (k : Key) → names (named_in p) (OfKey k) ≡ true → values_of q (OfKey k) ≡ book (OfKey k) S
    added_key k n =
        let slot : KeyBook = record { key = r.key; row = Some r } in
        let before = books_are p is agreed (OfKey k) n in
        let read : item_at key_cmp key_of (put key_cmp key_of p.keys slot) k
        ≡ cond (has_key key_cmp key_of k slot) (Some slot) (item_at key_cmp key_of p.keys k) =
        item_at-put key_cmp key_total key_of p.keys slot k in
        let row_of : Option KeyBook → Option Row = option_and_then (λ b. b.row) in
        let members : [] ≡ (book (OfKey k) S).members = sym (ap (λ (M : Ledger). M.members) before) in
        ledger_path (values_of q (OfKey k)) (book (OfKey k) S) members (elim (cases_Bool (is_eq (key_cmp r.key k))) [
          | inl t ↦
              let same : r.key ≡ k = key_exact r.key k (Equal-from_is_eq _ t) in
              let none : row_at p k ≡ None = subst (λ j. row_at p j ≡ None) same free in
              let empty : filter (has_row (OfKey k)) L.rows ≡ [] =
              ap (λ (M : Ledger). M.rows) before ∙ ap option_to_list none in
              let now : row_at q k ≡ Some r = ap row_of read ∙ rw t in
              ap option_to_list now ∙ sym (filter-put key_cmp key_total row_key (has_row (OfKey k)) L.rows r t order.rows_rise
              ∙ ap (λ xs. put key_cmp row_key xs r) empty)
          | inr f ↦
              let now : row_at q k ≡ row_at p k = ap row_of read ∙ rw f in
              ap option_to_list now ∙ sym (filter-put_free key_cmp key_total row_key (has_row (OfKey k)) L.rows r f nothing_under
              ∙ ap (λ (M : Ledger). M.rows) before)
        ])

    added_family : (f : List ℕ) (b : FamilyBook) → family_at p r.family ≡ Some b
        → names (named_in p) (OfFamily f) ≡ true → values_of q (OfFamily f) ≡ book (OfFamily f) S
    added_family f b there n =
        let c : FamilyBook = book_with_row b r in
        let theirs : b.family ≡ r.family = let found = family_found p is r.family b there in found.0 in
        let before = books_are p is agreed (OfFamily f) n in
        let written : q.families ≡ put id_cmp family_of p.families c =
        ap (λ o. with_family_book p (option_map (λ d. book_with_row d r) o)) there in
        let read : family_at q f ≡ cond (is_same b.family f) (Some c) (family_at p f) =
        ap (λ fs. item_at id_cmp family_of fs f) written ∙ item_at-put id_cmp id_total family_of p.families c f in
        elim (cases_Bool (is_same b.family f)) [
          | inl t ↦
              let same : b.family ≡ f = id_exact b.family f (Equal-from_is_eq _ t) in
              let now : family_at q f ≡ Some c = read ∙ rw t in
              let was : family_at p f ≡ Some b = subst (λ g. family_at p g ≡ Some b) (sym theirs ∙ same) there in
              let mine : has_row (OfFamily f) r ≡ true = subst (λ g. is_same g f ≡ true) theirs t in
              let value : book (OfFamily f) L ≡ own_ledger b = before ∙ ap ledger_of_family was in
              ap ledger_of_family now ∙ ledger_path (own_ledger c) (book (OfFamily f) S)
              (sym (ap (λ (M : Ledger). M.members) value))
              (sym (filter-put key_cmp key_total row_key (has_row (OfFamily f)) L.rows r mine order.rows_rise
              ∙ ap (λ (M : Ledger). put key_cmp row_key M.rows r) value))
          | inr g ↦
              let now : family_at q f ≡ family_at p f = read ∙ rw g in
              let other : has_row (OfFamily f) r ≡ false = subst (λ h. is_same h f ≡ false) theirs g in
              ap ledger_of_family now ∙ sym before ∙ ledger_path (book (OfFamily f) L) (book (OfFamily f) S) refl
              (sym (filter-put_free key_cmp key_total row_key (has_row (OfFamily f)) L.rows r other nothing_under))
        ]

    added : (b : Book) → names (named_in p) b ≡ true → values_of q b ≡ book b S
    added (OfKey k) n = added_key k n
    added (OfFamily f) n = let held = book_held p r.family nf in added_family f held.0 held.1 n

    names_added : named_in q ≡ named_in p
    names_added =
        let held = book_held p r.family nf in
        let b : FamilyBook = held.0 in
        let found = family_found p is r.family b held.1 in
        let slot : KeyBook = record { key = r.key; row = Some r } in
        let keys : map key_of q.keys ≡ map key_of p.keys =
        keys_stay key_cmp key_total key_exact key_of p.keys slot is.keys_rise (sym (key_held p r.key) ∙ nk) in
        let there : contains_key id_cmp family_of p.families b.family ≡ true =
        rw found.0 (sym (family_held p r.family) ∙ nf) in
        let written : q.families ≡ put id_cmp family_of p.families (book_with_row b r) =
        ap (λ o. with_family_book p (option_map (λ d. book_with_row d r) o)) held.1 in
        let families : map family_of q.families ≡ map family_of p.families =
        ap (map family_of) written
        ∙ keys_stay id_cmp id_total id_exact family_of p.families (book_with_row b r) is.families_rise there in
        λ i. record { keys = keys i; families = families i }

    order_added : IsInOrder S
    order_added = record {
      members_rise = order.members_rise;
      rows_rise = IsAscending-put key_cmp key_total row_key L.rows r order.rows_rise;
    }

    whole_added : part (named_in p) S ≡ S
    whole_added = ledger_path (part (named_in p) S) S (ap (λ (M : Ledger). M.members) whole)
        (filter-put key_cmp key_total row_key (keeps has_row (named_in p)) L.rows r (key_kept (named_in p) r nk) order.rows_rise
        ∙ ap (λ (M : Ledger). put key_cmp row_key M.rows r) whole)

    -- the parcel's ledger has the row too, and its books agree as before
    pub ledger_added : ledger_in q ≡ with_row (ledger_in p) r
    ledger_added = ap (λ F. sub F (values_of q)) names_added ∙ sub_is (named_in p) (values_of q) S order_added added whole_added

    pub agrees_added : Agrees q
    agrees_added = subst (λ F. AreAgreed F (values_of q)) (sym names_added)
        (books_agree (named_in p) (values_of q) S order_added added)

    pub named_added : named_in q ≡ named_in p
    named_added = names_added

  -- ---- one row less

  module _ (k : Key) (r : Row) (nk : names (named_in p) (OfKey k) ≡ true)
      (nf : names (named_in p) (OfFamily r.family) ≡ true) (there : row_at p k ≡ Some r) where
    abbrev u : ParcelParts
    u = parcel_without_row p k

    abbrev T : Ledger
    T = without_row L k

    stands_under : row_under L k ≡ Some r
    stands_under = row_read p is agreed k nk ∙ there

    removed_key : (j : Key) → names (named_in p) (OfKey j) ≡ true → values_of u (OfKey j) ≡ book (OfKey j) T
    removed_key j n =
        let slot : KeyBook = record { key = k; row = None } in
        let before = books_are p is agreed (OfKey j) n in
        let read : item_at key_cmp key_of (put key_cmp key_of p.keys slot) j
        ≡ cond (has_key key_cmp key_of j slot) (Some slot) (item_at key_cmp key_of p.keys j) =
        item_at-put key_cmp key_total key_of p.keys slot j in
        let row_of : Option KeyBook → Option Row = option_and_then (λ b. b.row) in
        let members : [] ≡ (book (OfKey j) T).members = sym (ap (λ (M : Ledger). M.members) before) in
        let rows : (book (OfKey j) T).rows ≡ without key_cmp row_key (option_to_list (row_at p j)) k =
        filter-without key_cmp key_total row_key (has_row (OfKey j)) L.rows k
        ∙ ap (λ (M : Ledger). without key_cmp row_key M.rows k) before in
        ledger_path (values_of u (OfKey j)) (book (OfKey j) T) members (elim (cases_Bool (is_eq (key_cmp k j))) [
          | inl t ↦
              let now : row_at u j ≡ None = ap row_of read ∙ rw t in
              ap option_to_list now ∙ sym (rows ∙ gone (row_at p j) (λ x e. rw (row_found p is j x e)
              (ap is_eq (tied_back key_total k j (Equal-from_is_eq _ t)))))
          | inr f ↦
              let now : row_at u j ≡ row_at p j = ap row_of read ∙ rw f in
              ap option_to_list now ∙ sym (rows ∙ stays (row_at p j) (λ x e. rw (row_found p is j x e)
              (is_eq-turned (key_cmp k j) (key_cmp j k) (key_total.antisymm j k) f)))
        ])
      where
        gone : (o : Option Row) → ((x : Row) → o ≡ Some x → is_eq (key_cmp x.key k) ≡ true)
            → without key_cmp row_key (option_to_list o) k ≡ []
        gone None h = refl
        gone (Some x) h = let here : is_eq (key_cmp x.key k) ≡ true = h x refl in rw here

        stays : (o : Option Row) → ((x : Row) → o ≡ Some x → is_eq (key_cmp x.key k) ≡ false)
            → without key_cmp row_key (option_to_list o) k ≡ option_to_list o
        stays None h = refl
        stays (Some x) h = let here : is_eq (key_cmp x.key k) ≡ false = h x refl in rw here

    removed_family : (f : List ℕ) (b : FamilyBook) → family_at p r.family ≡ Some b
        → names (named_in p) (OfFamily f) ≡ true → values_of u (OfFamily f) ≡ book (OfFamily f) T
    removed_family f b held n =
        let c : FamilyBook = book_without_row b k in
        let theirs : b.family ≡ r.family = let found = family_found p is r.family b held in found.0 in
        let before = books_are p is agreed (OfFamily f) n in
        let written : u.families ≡ put id_cmp family_of p.families c =
        ap (λ o. with_family_book p (family_without p o k)) there
        ∙ ap (λ o. with_family_book p (option_map (λ d. book_without_row d k) o)) held in
        let read : family_at u f ≡ cond (is_same b.family f) (Some c) (family_at p f) =
        ap (λ fs. item_at id_cmp family_of fs f) written ∙ item_at-put id_cmp id_total family_of p.families c f in
        elim (cases_Bool (is_same b.family f)) [
          | inl t ↦
              let same : b.family ≡ f = id_exact b.family f (Equal-from_is_eq _ t) in
              let now : family_at u f ≡ Some c = read ∙ rw t in
              let was : family_at p f ≡ Some b = subst (λ g. family_at p g ≡ Some b) (sym theirs ∙ same) held in
              let value : book (OfFamily f) L ≡ own_ledger b = before ∙ ap ledger_of_family was in
              ap ledger_of_family now ∙ ledger_path (own_ledger c) (book (OfFamily f) T)
              (sym (ap (λ (M : Ledger). M.members) value))
              (sym (filter-without key_cmp key_total row_key (has_row (OfFamily f)) L.rows k
              ∙ ap (λ (M : Ledger). without key_cmp row_key M.rows k) value))
          | inr g ↦
              let now : family_at u f ≡ family_at p f = read ∙ rw g in
              let other : has_row (OfFamily f) r ≡ false = subst (λ h. is_same h f ≡ false) theirs g in
              ap ledger_of_family now ∙ sym before ∙ ledger_path (book (OfFamily f) L) (book (OfFamily f) T) refl
              (sym (filter-without_refused key_cmp key_total row_key (has_row (OfFamily f)) L.rows k r order.rows_rise
              stands_under other))
        ]

    removed : (b : Book) → names (named_in p) b ≡ true → values_of u b ≡ book b T
    removed (OfKey j) n = removed_key j n
    removed (OfFamily f) n = let held = book_held p r.family nf in removed_family f held.0 held.1 n

    names_removed : named_in u ≡ named_in p
    names_removed =
        let held = book_held p r.family nf in
        let b : FamilyBook = held.0 in
        let found = family_found p is r.family b held.1 in
        let slot : KeyBook = record { key = k; row = None } in
        let keys : map key_of u.keys ≡ map key_of p.keys =
        keys_stay key_cmp key_total key_exact key_of p.keys slot is.keys_rise (sym (key_held p k) ∙ nk) in
        let holds : contains_key id_cmp family_of p.families b.family ≡ true =
        rw found.0 (sym (family_held p r.family) ∙ nf) in
        let written : u.families ≡ put id_cmp family_of p.families (book_without_row b k) =
        ap (λ o. with_family_book p (family_without p o k)) there
        ∙ ap (λ o. with_family_book p (option_map (λ d. book_without_row d k) o)) held.1 in
        let families : map family_of u.families ≡ map family_of p.families =
        ap (map family_of) written
        ∙ keys_stay id_cmp id_total id_exact family_of p.families (book_without_row b k) is.families_rise holds in
        λ i. record { keys = keys i; families = families i }

    order_removed : IsInOrder T
    order_removed = record {
      members_rise = order.members_rise;
      rows_rise = IsAscending-without key_cmp key_total row_key L.rows k order.rows_rise;
    }

    whole_removed : part (named_in p) T ≡ T
    whole_removed = ledger_path (part (named_in p) T) T (ap (λ (M : Ledger). M.members) whole)
        (filter-without key_cmp key_total row_key (keeps has_row (named_in p)) L.rows k
        ∙ ap (λ (M : Ledger). without key_cmp row_key M.rows k) whole)

    -- the parcel's ledger is without the row too, and its books agree as before
    pub ledger_removed : ledger_in u ≡ without_row (ledger_in p) k
    ledger_removed =
        ap (λ F. sub F (values_of u)) names_removed ∙ sub_is (named_in p) (values_of u) T order_removed removed whole_removed

    pub agrees_removed : Agrees u
    agrees_removed = subst (λ F. AreAgreed F (values_of u)) (sym names_removed)
        (books_agree (named_in p) (values_of u) T order_removed removed)

    pub named_removed : named_in u ≡ named_in p
    named_removed = names_removed
