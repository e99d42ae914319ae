-- The tests of a parcel's books say whether they agree.
use Rattle.std.proofs.Common.{◌≡◌, ℕ, zero, suc, List, Bool, true, false, not, Option, Some}
use Rattle.std.proofs.Common.{None, refl, sym, ap, subst, ◌∙◌, inl, inr, arith}
use Rattle.std.specs.Prelude.{◌||◌, ◌↔◌, IsTrue}
use Rattle.std.specs.List.{Contains, list_all}
use Rattle.std.specs.Option.{is_some, option_and_then, option_to_list}
use Rattle.std.specs.Ordering.{is_eq}
use Rattle.std.proofs.lemmas.Bool.{and_from, and_parts, both_ways, cases_Bool}
use Rattle.std.proofs.lemmas.Cmp.{tied_back, tied_itself}
use Rattle.std.proofs.lemmas.List.Elements.{All-contains, All-contains_itself, All-weaker}
use Rattle.std.proofs.lemmas.List.Sums.{AllPass-from_list_all, list_all-from_AllPass}
use Rattle.rx_fields.specs.Order.{id_cmp, key_cmp}
use Rattle.rx_fields.specs.declared.key.Key.{Key}
use Rattle.rx_sorted.specs.Ascending.{item_at}
use Rattle.rx_sorted.proofs.Keys.{Equal-from_is_eq}
use Rattle.rx_sorted.proofs.LookUps.{item_at-found, item_at-from_contains}
use Rattle.rx_ledger.specs.declared.row.Row.{Row}
use Rattle.rx_ledger.specs.Ledger.{is_taken, row_under}
use Rattle.rx_ledger.specs.Members.{is_same}
use Rattle.rx_ledger.specs.Rows.{claimed_by, row_key}
use Rattle.rx_ledger.proofs.Decided.{row_decides}
use Rattle.rx_ledger.proofs.Orders.{id_exact, id_total, key_exact, key_total}
use Rattle.rx_books_family.specs.declared.key_book.KeyBook.{KeyBook}
use Rattle.rx_books_family.specs.Books.{Book, OfFamily, OfKey, has_row, is_found}
use Rattle.rx_books_parcel.specs.Agreement.{agree, are_apart, are_under_keys, is_in_book, is_in_family, is_under_key}
use Rattle.rx_books_family.specs.FamilyBook.{FamilyBook, family_of, ledger_of_family, own_ledger}
use Rattle.rx_books_parcel.specs.Footprints.{names}
use Rattle.rx_books_parcel.specs.Parcels.{Agrees, IsParcel, ParcelParts, family_at, key_of, named_in, row_at, values_of}
use Rattle.rx_books_family.proofs.Families.{rows_theirs}
use Rattle.rx_books_parcel.proofs.Held.{family_found, family_held, key_held, row_found}

-- ---- small things

found_is : (r : Row) (o : Option Row) → is_found r o ≡ true → o ≡ Some r
found_is r None h = absurd (let w : false ≡ true = h in cc)
found_is r (Some s) h = let same : s ≡ r = (row_decides s r).0 h in ap Some same

is_found_from : (r : Row) (o : Option Row) → o ≡ Some r → is_found r o ≡ true
is_found_from r None e = absurd (cc e)
is_found_from r (Some s) e = let same : s ≡ r = cc in (row_decides s r).1 same

in_option : (o : Option Row) (r : Row) → Contains (option_to_list o) r → o ≡ Some r
in_option None r among = absurd (omega (arith, among.1))
in_option (Some s) r (zero, in_range, is) = ap Some is
in_option (Some s) r (suc i, in_range, is) = absurd (omega arith)

option_in : (o : Option Row) (r : Row) → o ≡ Some r → Contains (option_to_list o) r
option_in o r e = subst (λ q. Contains (option_to_list q) r) (sym e) (0, omega arith, refl)

each : {A : Type 0} (q : A → Bool) (xs : List A) (x : A) → list_all q xs ≡ true → Contains xs x → q x ≡ true
each q xs x h among = All-contains (λ y. q y ≡ true) xs x (AllPass-from_list_all q xs h) among

all_of : {A : Type 0} (q : A → Bool) (xs : List A) → ((x : A) → Contains xs x → q x ≡ true) → list_all q xs ≡ true
all_of q xs h =
    list_all-from_AllPass q xs (All-weaker (Contains xs) (λ x. q x ≡ true) h xs (All-contains_itself xs))

or_left : (s t : Bool) → s ≡ true → (s || t) ≡ true
or_left s t h = rw h

or_right : (s t : Bool) → t ≡ true → (s || t) ≡ true
or_right true t h = refl
or_right false t h = h

or_then : (s t : Bool) → (s || t) ≡ true → s ≡ false → t ≡ true
or_then true t h f = absurd (cc f)
or_then false t h f = h

module _ (p : ParcelParts) (is : IsParcel p) where
  -- ---- rows of the books

  in_family : (f : List ℕ) (r : Row) → Contains (values_of p (OfFamily f)).rows r
      → (b : FamilyBook) × (family_at p f ≡ Some b) × Contains b.rows r
  in_family f r among = by_book (family_at p f) refl among
    where
      by_book : (o : Option FamilyBook) → family_at p f ≡ o → Contains (ledger_of_family o).rows r
          → (b : FamilyBook) × (family_at p f ≡ Some b) × Contains b.rows r
      by_book None e there = absurd (omega (arith, there.1))
      by_book (Some b) e there = (b, e, there)

  family_in : (f : List ℕ) (b : FamilyBook) (r : Row) → family_at p f ≡ Some b → Contains b.rows r
      → Contains (values_of p (OfFamily f)).rows r
  family_in f b r e among = subst (λ o. Contains (ledger_of_family o).rows r) (sym e) among

  -- a row of a family's book stands under its key there
  stands : (f : List ℕ) (b : FamilyBook) (r : Row) → family_at p f ≡ Some b → Contains b.rows r
      → row_under (own_ledger b) r.key ≡ Some r
  stands f b r e among =
      let found = family_found p is f b e in
      item_at-from_contains key_cmp key_total row_key b.rows r found.1.in_order.rows_rise among

  book_among : (f : List ℕ) (b : FamilyBook) → family_at p f ≡ Some b → Contains p.families b
  book_among f b e = let found = item_at-found id_cmp id_total family_of p.families f b e in found.0

  among_book : (b : FamilyBook) → Contains p.families b → family_at p b.family ≡ Some b
  among_book b among = item_at-from_contains id_cmp id_total family_of p.families b is.families_rise among

  row_theirs : (f : List ℕ) (b : FamilyBook) (r : Row) → family_at p f ≡ Some b → Contains b.rows r → r.family ≡ f
  row_theirs f b r e among =
      let found = family_found p is f b e in
      let own : claimed_by b.family r ≡ true =
      All-contains (λ s. claimed_by b.family s ≡ true) b.rows r (rows_theirs b found.1) among in
      id_exact r.family b.family (Equal-from_is_eq _ own) ∙ found.0

  named_book : (f : List ℕ) (b : FamilyBook) → family_at p f ≡ Some b → names (named_in p) (OfFamily f) ≡ true
  named_book f b e = family_held p f ∙ ap is_some e

  named_key : (k : Key) (r : Row) → row_at p k ≡ Some r → names (named_in p) (OfKey k) ≡ true
  named_key k r e = key_held p k ∙ held (item_at key_cmp key_of p.keys k) e
    where
      held : (o : Option KeyBook) → option_and_then (λ (s : KeyBook). s.row) o ≡ Some r → is_some o ≡ true
      held None h = absurd (cc h)
      held (Some s) h = refl

  -- ---- from the tests

  module _ (passed : agree p ≡ true) where
    first : list_all (λ s. is_in_family p s.row) p.keys ≡ true
    first = let parts = and_parts _ _ passed in let more = and_parts _ _ parts.0 in more.0

    second : list_all (are_under_keys p) p.families ≡ true
    second = let parts = and_parts _ _ passed in let more = and_parts _ _ parts.0 in more.1

    third : list_all (λ b. list_all (are_apart b) p.families) p.families ≡ true
    third = let parts = and_parts _ _ passed in parts.1

    -- a row of a key's book is in its family's book
    key_row : (k : Key) (r : Row) (b : FamilyBook) → row_at p k ≡ Some r → family_at p r.family ≡ Some b
        → row_under (own_ledger b) r.key ≡ Some r
    key_row k r b e there = by_book (item_at key_cmp key_of p.keys k) refl e
      where
        by_book : (o : Option KeyBook) → item_at key_cmp key_of p.keys k ≡ o
            → option_and_then (λ (s : KeyBook). s.row) o ≡ Some r → row_under (own_ledger b) r.key ≡ Some r
        by_book None at h = absurd (cc h)
        by_book (Some s) at h =
            let found = item_at-found key_cmp key_total key_of p.keys k s at in
            let test : is_in_family p s.row ≡ true = each (λ t. is_in_family p t.row) p.keys s first found.0 in
            let one : is_in_family p (Some r) ≡ true = subst (λ o. is_in_family p o ≡ true) h test in
            let two : is_in_book r (Some b) ≡ true = subst (λ o. is_in_book r o ≡ true) there one in
            found_is r (row_under (own_ledger b) r.key) two

    -- a row of a family's book is under its key
    family_row : (f : List ℕ) (b : FamilyBook) (r : Row) → family_at p f ≡ Some b → Contains b.rows r
        → names (named_in p) (OfKey r.key) ≡ true → row_at p r.key ≡ Some r
    family_row f b r e among n =
        let test : are_under_keys p b ≡ true = each (are_under_keys p) p.families b second (book_among f b e) in
        let one : is_under_key p r ≡ true = each (is_under_key p) b.rows r test among in
        let held : not (names (named_in p) (OfKey r.key)) ≡ false = ap not n in
        found_is r (row_at p r.key) (or_then (not (names (named_in p) (OfKey r.key))) (is_found r (row_at p r.key)) one held)

    -- rows of two families have two keys
    families_apart : (f g : List ℕ) (b c : FamilyBook) (r s : Row) → family_at p f ≡ Some b → family_at p g ≡ Some c
        → Contains b.rows r → Contains c.rows s → r.key ≡ s.key → r ≡ s
    families_apart f g b c r s eb ec here there same =
        let outer : list_all (are_apart b) p.families ≡ true =
        each (λ d. list_all (are_apart d) p.families) p.families b third (book_among f b eb) in
        let apart : are_apart b c ≡ true = each (are_apart b) p.families c outer (book_among g c ec) in
        let under : row_under (own_ledger c) r.key ≡ Some s =
        subst (λ k. row_under (own_ledger c) k ≡ Some s) (sym same) (stands g c s ec there) in
        elim (cases_Bool (is_same b.family c.family)) [
          | inl t ↦
              let one : b.family ≡ c.family = id_exact b.family c.family (Equal-from_is_eq _ t) in
              let books : Some b ≡ Some c = sym (among_book b (book_among f b eb)) ∙ ap (family_at p) one
              ∙ among_book c (book_among g c ec) in
              let book : b ≡ c = cc in
              let mine : row_under (own_ledger b) r.key ≡ Some r = stands f b r eb here in
              let both : Some r ≡ Some s = sym mine ∙ ap (λ (d : FamilyBook). row_under (own_ledger d) r.key) book ∙ under in
              cc
          | inr n ↦
              let free : list_all (λ x. not (is_taken (own_ledger c) x.key)) b.rows ≡ true =
              or_then (is_same b.family c.family) (list_all (λ x. not (is_taken (own_ledger c) x.key)) b.rows) apart n in
              let none : not (is_taken (own_ledger c) r.key) ≡ true =
              each (λ x. not (is_taken (own_ledger c) x.key)) b.rows r free here in
              let taken : not (is_taken (own_ledger c) r.key) ≡ false = ap (λ o. not (is_some o)) under in
              absurd (both_ways _ taken none)
        ]

    one_row : (b c : Book) (r s : Row) → names (named_in p) b ≡ true → names (named_in p) c ≡ true
        → Contains (values_of p b).rows r → Contains (values_of p c).rows s → r.key ≡ s.key → r ≡ s
    one_row (OfKey j) (OfKey k) r s nj nk here there same =
        let at_j : row_at p j ≡ Some r = in_option (row_at p j) r here in
        let at_k : row_at p k ≡ Some s = in_option (row_at p k) s there in
        let one : j ≡ k = sym (row_found p is j r at_j) ∙ same ∙ row_found p is k s at_k in
        let both : Some r ≡ Some s = sym at_j ∙ ap (row_at p) one ∙ at_k in
        cc
    one_row (OfKey j) (OfFamily g) r s nj ng here there same =
        let at_j : row_at p j ≡ Some r = in_option (row_at p j) r here in
        let theirs = in_family g s there in
        let one : j ≡ s.key = sym (row_found p is j r at_j) ∙ same in
        let under : row_at p s.key ≡ Some s =
        family_row g theirs.0 s theirs.1 theirs.2 (subst (λ k. names (named_in p) (OfKey k) ≡ true) one nj) in
        let both : Some r ≡ Some s = sym at_j ∙ ap (row_at p) one ∙ under in
        cc
    one_row (OfFamily f) (OfKey k) r s nf nk here there same =
        let at_k : row_at p k ≡ Some s = in_option (row_at p k) s there in
        let mine = in_family f r here in
        let one : k ≡ r.key = sym (row_found p is k s at_k) ∙ sym same in
        let under : row_at p r.key ≡ Some r =
        family_row f mine.0 r mine.1 mine.2 (subst (λ l. names (named_in p) (OfKey l) ≡ true) one nk) in
        let both : Some r ≡ Some s = sym under ∙ ap (row_at p) (sym one) ∙ at_k in
        cc
    one_row (OfFamily f) (OfFamily g) r s nf ng here there same =
        let mine = in_family f r here in
        let theirs = in_family g s there in
        families_apart f g mine.0 theirs.0 r s mine.1 theirs.1 mine.2 theirs.2 same

    every_book : (b c : Book) (r : Row) → names (named_in p) b ≡ true → names (named_in p) c ≡ true
        → Contains (values_of p b).rows r → has_row c r ≡ true → Contains (values_of p c).rows r
    every_book (OfKey j) (OfKey k) r nj nk here has =
        let at_j : row_at p j ≡ Some r = in_option (row_at p j) r here in
        let one : j ≡ k = sym (row_found p is j r at_j) ∙ key_exact r.key k (Equal-from_is_eq _ has) in
        option_in (row_at p k) r (ap (row_at p) (sym one) ∙ at_j)
    every_book (OfKey j) (OfFamily g) r nj ng here has =
        let at_j : row_at p j ≡ Some r = in_option (row_at p j) r here in
        let one : r.family ≡ g = id_exact r.family g (Equal-from_is_eq _ has) in
        by_book (family_at p g) refl (sym (family_held p g) ∙ ng) at_j one
      where
        by_book : (o : Option FamilyBook) → family_at p g ≡ o → is_some o ≡ true → row_at p j ≡ Some r → r.family ≡ g
            → Contains (values_of p (OfFamily g)).rows r
        by_book None e h at_j one = absurd (let w : false ≡ true = h in cc)
        by_book (Some b) e h at_j one =
            let there = key_row j r b at_j (ap (family_at p) one ∙ e) in
            let found = item_at-found key_cmp key_total row_key b.rows r.key r there in
            family_in g b r e found.0
    every_book (OfFamily f) (OfKey k) r nf nk here has =
        let mine = in_family f r here in
        let one : r.key ≡ k = key_exact r.key k (Equal-from_is_eq _ has) in
        let under = family_row f mine.0 r mine.1 mine.2 (subst (λ l. names (named_in p) (OfKey l) ≡ true) (sym one) nk) in
        option_in (row_at p k) r (ap (row_at p) (sym one) ∙ under)
    every_book (OfFamily f) (OfFamily g) r nf ng here has =
        let mine = in_family f r here in
        let found = family_found p is f mine.0 mine.1 in
        let theirs = row_theirs f mine.0 r mine.1 mine.2 in
        let one : f ≡ g = sym theirs ∙ id_exact r.family g (Equal-from_is_eq _ has) in
        subst (λ h. Contains (values_of p (OfFamily h)).rows r) one here

    pub agrees_from : Agrees p
    agrees_from = record {
      one = λ b c r s nb nc here there tied. one_row b c r s nb nc here there (key_exact r.key s.key (Equal-from_is_eq _ tied));
      everywhere = every_book;
    }

  -- ---- to the tests

  module _ (agreed : Agrees p) where
    row_in_book : (k : Key) (r : Row) (o : Option FamilyBook) → row_at p k ≡ Some r → family_at p r.family ≡ o
        → is_in_book r o ≡ true
    row_in_book k r None at e = refl
    row_in_book k r (Some b) at e =
        let here : Contains (values_of p (OfKey k)).rows r = option_in (row_at p k) r at in
        let has : has_row (OfFamily r.family) r ≡ true = ap is_eq (tied_itself id_total r.family) in
        let there = agreed.everywhere (OfKey k) (OfFamily r.family) r (named_key k r at) (named_book r.family b e) here has in
        let among : Contains b.rows r = subst (λ o. Contains (ledger_of_family o).rows r) e there in
        is_found_from r (row_under (own_ledger b) r.key) (stands r.family b r e among)

    key_passes : (s : KeyBook) → Contains p.keys s → is_in_family p s.row ≡ true
    key_passes s among = by_row s.row refl
      where
        by_row : (o : Option Row) → s.row ≡ o → is_in_family p o ≡ true
        by_row None e = refl
        by_row (Some r) e =
            let at : row_at p s.key ≡ Some r = ap (option_and_then (λ (t : KeyBook). t.row))
            (item_at-from_contains key_cmp key_total key_of p.keys s is.keys_rise among) ∙ e in
            row_in_book s.key r (family_at p r.family) at refl

    row_passes : (b : FamilyBook) (r : Row) → Contains p.families b → Contains b.rows r → is_under_key p r ≡ true
    row_passes b r book among = elim (cases_Bool (names (named_in p) (OfKey r.key))) [
      | inl t ↦
          let e = among_book b book in
          let here : Contains (values_of p (OfFamily b.family)).rows r = family_in b.family b r e among in
          let has : has_row (OfKey r.key) r ≡ true = ap is_eq (tied_itself key_total r.key) in
          let there = agreed.everywhere (OfFamily b.family) (OfKey r.key) r (named_book b.family b e) t here has in
          or_right (not (names (named_in p) (OfKey r.key))) (is_found r (row_at p r.key))
          (is_found_from r (row_at p r.key) (in_option (row_at p r.key) r there))
      | inr f ↦ or_left (not (names (named_in p) (OfKey r.key))) (is_found r (row_at p r.key)) (ap not f)
    ]

    pair_passes : (b c : FamilyBook) → Contains p.families b → Contains p.families c → are_apart b c ≡ true
    pair_passes b c book other = elim (cases_Bool (is_same b.family c.family)) [
      | inl t ↦ or_left (is_same b.family c.family) (list_all (λ r. not (is_taken (own_ledger c) r.key)) b.rows) t
      | inr n ↦ or_right (is_same b.family c.family) (list_all (λ r. not (is_taken (own_ledger c) r.key)) b.rows)
          (all_of (λ r. not (is_taken (own_ledger c) r.key)) b.rows (λ r among. by_row n r among (row_under (own_ledger c) r.key) refl))
    ]
      where
        by_row : is_same b.family c.family ≡ false → (r : Row) → Contains b.rows r → (o : Option Row)
            → row_under (own_ledger c) r.key ≡ o → not (is_some o) ≡ true
        by_row n r among None e = refl
        by_row n r among (Some s) e =
            let eb = among_book b book in
            let ec = among_book c other in
            let found = item_at-found key_cmp key_total row_key c.rows r.key s e in
            let same : r ≡ s = agreed.one (OfFamily b.family) (OfFamily c.family) r s (named_book b.family b eb)
            (named_book c.family c ec) (family_in b.family b r eb among) (family_in c.family c s ec found.0)
            (ap is_eq (tied_back key_total s.key r.key found.1)) in
            let families : b.family ≡ c.family = sym (row_theirs b.family b r eb among) ∙ ap (λ (x : Row). x.family) same
            ∙ row_theirs c.family c s ec found.0 in
            absurd (both_ways _ n (rw families (ap is_eq (tied_itself id_total c.family))))

    pub agree_from : agree p ≡ true
    agree_from = and_from _ _ (and_from _ _ (all_of (λ s. is_in_family p s.row) p.keys key_passes)
        (all_of (are_under_keys p) p.families
        (λ b book. all_of (is_under_key p) b.rows (λ r among. row_passes b r book among))))
        (all_of (λ b. list_all (are_apart b) p.families) p.families
        (λ b book. all_of (are_apart b) p.families (λ c other. pair_passes b c book other)))

  -- the tests are passed exactly where the books agree
  pub agree_exact : (r : Bool) → r ≡ agree p → IsTrue r ↔ Agrees p
  agree_exact r e = (λ t. agrees_from (sym e ∙ t), λ agreed. e ∙ agree_from agreed)
