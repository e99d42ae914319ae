-- The tests of a shelf's books say whether all are in and agree.
use Rattle.std.proofs.Common.{◌≡◌, zero, suc, List, Bool, true, false, Option, Some}
use Rattle.std.proofs.Common.{None, refl, sym, ap, subst, ◌∙◌, arith}
use Rattle.std.specs.Prelude.{◌↔◌, ◌&&◌, ◌||◌, IsTrue}
use Rattle.std.specs.List.{Contains, list_all}
use Rattle.std.specs.Option.{is_some, option_to_list}
use Rattle.std.specs.Ordering.{is_eq}
use Rattle.std.proofs.lemmas.Bool.{and_from, and_parts}
use Rattle.std.proofs.lemmas.Cmp.{tied_itself}
use Rattle.std.proofs.lemmas.List.Elements.{All-contains, All-contains_itself, All-weaker}
use Rattle.std.proofs.lemmas.List.Sums.{AllPass-from_list_all, list_all-from_AllPass}
use Rattle.rx_fields.specs.Order.{id_cmp, key_cmp}
use Rattle.rx_sorted.proofs.Edits.{same_item}
use Rattle.rx_sorted.proofs.Filters.{Contains-filter, Contains-filter_kept}
use Rattle.rx_sorted.proofs.Keys.{Equal-from_is_eq}
use Rattle.rx_sorted.proofs.LookUps.{item_at-found, item_at-from_contains}
use Rattle.rx_ledger.specs.declared.row.Row.{Row}
use Rattle.rx_ledger.specs.Ledger.{row_under}
use Rattle.rx_ledger.specs.Rows.{row_key}
use Rattle.rx_ledger.proofs.Decided.{row_decides}
use Rattle.rx_ledger.proofs.Orders.{id_exact, id_total, key_exact, key_total}
use Rattle.rx_books_family.specs.Books.{Book, OfFamily, OfKey, book, has_row, is_found}
use Rattle.rx_books_family.specs.FamilyBook.{FamilyBook, ledger_of_family}
use Rattle.rx_books_family.specs.declared.place.FamilyPlace.{FamilyPlace}
use Rattle.rx_books_family.specs.declared.place.KeyPlace.{KeyPlace}
use Rattle.rx_books_family.specs.Shelves.{AreAllAgreed, IsShelf, ShelfParts, are_all_in, family_place, family_value_or, has_slot, key_place}
use Rattle.rx_books_family.specs.Shelves.{key_value_or, place_family, place_key, row_held, value_of}
use Rattle.rx_books_family.proofs.Valued.{shelf_value}
use Rattle.rx_books_shelf.specs.Agreement.{agree, book_stands, is_kept_out, rest_stands, row_stands, stands, stands_in}

-- ---- small things

found_is : (r : Row) (o : Option Row) → is_found r o ≡ true → o ≡ Some r
found_is r None h = absurd (let w : false ≡ true = h in cc)
found_is r (Some s) h = let same : s ≡ r = (row_decides s r).0 h in ap Some same

is_found_from : (r : Row) (o : Option Row) → o ≡ Some r → is_found r o ≡ true
is_found_from r None e = absurd (cc e)
is_found_from r (Some s) e = let same : s ≡ r = cc in (row_decides s r).1 same

in_option : (o : Option Row) (r : Row) → Contains (option_to_list o) r → o ≡ Some r
in_option None r among = absurd (omega (arith, among.1))
in_option (Some s) r (zero, in_range, is) = ap Some is
in_option (Some s) r (suc i, in_range, is) = absurd (omega arith)

option_in : (o : Option Row) (r : Row) → o ≡ Some r → Contains (option_to_list o) r
option_in o r e = subst (λ q. Contains (option_to_list q) r) (sym e) (0, omega arith, refl)

each : {A : Type 0} (q : A → Bool) (xs : List A) (x : A) → list_all q xs ≡ true → Contains xs x → q x ≡ true
each q xs x h among = All-contains (λ y. q y ≡ true) xs x (AllPass-from_list_all q xs h) among

all_of : {A : Type 0} (q : A → Bool) (xs : List A) → ((x : A) → Contains xs x → q x ≡ true) → list_all q xs ≡ true
all_of q xs h = list_all-from_AllPass q xs (All-weaker (Contains xs) (λ x. q x ≡ true) h xs (All-contains_itself xs))

or_then : (s t : Bool) → (s || t) ≡ true → s ≡ false → t ≡ true
or_then true t h f = absurd (cc f)
or_then false t h f = h

or_right : (s t : Bool) → t ≡ true → (s || t) ≡ true
or_right true t h = refl
or_right false t h = h

module _ (s : ShelfParts) (is : IsShelf s) where
  -- a row stands in a value if it is one of its rows
  stands_from : (b : Book) (r : Row) → Contains (value_of s b).rows r → stands_in s b r ≡ true
  stands_from b r among = let value = shelf_value s is b in
      is_found_from r (row_under (value_of s b) r.key)
      (item_at-from_contains key_cmp key_total row_key (value_of s b).rows r value.order.rows_rise among)

  stands_then : (b : Book) (r : Row) → stands_in s b r ≡ true → Contains (value_of s b).rows r
  stands_then b r told =
      let found = item_at-found key_cmp key_total row_key (value_of s b).rows r.key r (found_is r (row_under (value_of s b) r.key)
      told) in
      found.0

  -- ---- from the tests

  module _ (passed : agree s ≡ true) where
    outer : ((are_all_in s && list_all (λ p. row_stands s (row_held p)) s.keys) && list_all (λ p. book_stands s p.held) s.families ≡ true)
        × (list_all (rest_stands s) s.rest.rows ≡ true)
    outer = and_parts _ _ passed

    middle : ((are_all_in s && list_all (λ p. row_stands s (row_held p)) s.keys) ≡ true)
        × (list_all (λ p. book_stands s p.held) s.families ≡ true)
    middle = and_parts _ _ outer.0

    inner : (are_all_in s ≡ true) × (list_all (λ p. row_stands s (row_held p)) s.keys ≡ true)
    inner = and_parts _ _ middle.0

    -- a row in the ledger that is known
    beside : (r : Row) → Contains s.rest.rows r → is_kept_out s r ≡ false → stands s r ≡ true
    beside r among out = or_then (is_kept_out s r) (stands s r) (each (rest_stands s) s.rest.rows r outer.1 among) out

    and_false_left : (t u : Bool) → t ≡ false → (t && u) ≡ false
    and_false_left t u f = rw f refl

    and_false_right : (t u : Bool) → u ≡ false → (t && u) ≡ false
    and_false_right true u f = f
    and_false_right false u f = refl

    -- each row of each value
    all_stand : (b : Book) (r : Row) → Contains (value_of s b).rows r → stands s r ≡ true
    all_stand (OfKey k) r among = by_place (key_place s k) refl among
      where
        by_place : (q : Option KeyPlace) → key_place s k ≡ q → Contains (key_value_or q (book (OfKey k) s.rest)).rows r
            → stands s r ≡ true
        by_place (Some p) e here =
            let found = item_at-found key_cmp key_total place_key s.keys k p e in
            let test : row_stands s (row_held p) ≡ true = each (λ q. row_stands s (row_held q)) s.keys p inner.1 found.0 in
            subst (λ o. row_stands s o ≡ true) (in_option (row_held p) r here) test
        by_place None e here =
            let parts = Contains-filter (has_row (OfKey k)) s.rest.rows r here in
            let same : r.key ≡ k = key_exact r.key k (Equal-from_is_eq _ parts.1) in
            let none : has_slot s (OfKey r.key) ≡ false = ap (λ j. is_some (key_place s j)) same ∙ ap is_some e in
            beside r parts.0 (and_false_left (has_slot s (OfKey r.key)) (has_slot s (OfFamily r.family)) none)
    all_stand (OfFamily f) r among = by_place (family_place s f) refl among
      where
        by_book : (o : Option FamilyBook) → book_stands s o ≡ true → Contains (ledger_of_family o).rows r → stands s r ≡ true
        by_book None test here = absurd (omega (arith, here.1))
        by_book (Some b) test here = each (stands s) b.rows r test here

        by_place : (q : Option FamilyPlace) → family_place s f ≡ q → Contains (family_value_or q (book (OfFamily f) s.rest)).rows r
            → stands s r ≡ true
        by_place (Some p) e here =
            let found = item_at-found id_cmp id_total place_family s.families f p e in
            by_book p.held (each (λ q. book_stands s q.held) s.families p middle.1 found.0) here
        by_place None e here =
            let parts = Contains-filter (has_row (OfFamily f)) s.rest.rows r here in
            let same : r.family ≡ f = id_exact r.family f (Equal-from_is_eq _ parts.1) in
            let none : has_slot s (OfFamily r.family) ≡ false = ap (λ g. is_some (family_place s g)) same ∙ ap is_some e in
            beside r parts.0 (and_false_right (has_slot s (OfKey r.key)) (has_slot s (OfFamily r.family)) none)

    under_key : (b : Book) (r : Row) → Contains (value_of s b).rows r → Contains (value_of s (OfKey r.key)).rows r
    under_key b r among = let both = and_parts _ _ (all_stand b r among) in stands_then (OfKey r.key) r both.0

    in_family : (b : Book) (r : Row) → Contains (value_of s b).rows r → Contains (value_of s (OfFamily r.family)).rows r
    in_family b r among = let both = and_parts _ _ (all_stand b r among) in stands_then (OfFamily r.family) r both.1

    agreed_from : AreAllAgreed (value_of s)
    agreed_from = record {
      one = λ b c r t here there tied.
          let same : t.key ≡ r.key = sym (key_exact r.key t.key (Equal-from_is_eq _ tied)) in
          let mine = under_key b r here in
          let theirs : Contains (value_of s (OfKey r.key)).rows t =
          subst (λ k. Contains (value_of s (OfKey k)).rows t) same (under_key c t there) in
          let value = shelf_value s is (OfKey r.key) in
          same_item key_cmp key_total row_key (value_of s (OfKey r.key)).rows r t value.order.rows_rise mine theirs (Equal-from_is_eq _
          tied);
      everywhere = every;
    }
      where
        every : (b c : Book) (r : Row) → Contains (value_of s b).rows r → has_row c r ≡ true → Contains (value_of s c).rows r
        every b (OfKey k) r here has =
            let same : r.key ≡ k = key_exact r.key k (Equal-from_is_eq _ has) in
            subst (λ j. Contains (value_of s (OfKey j)).rows r) same (under_key b r here)
        every b (OfFamily f) r here has =
            let same : r.family ≡ f = id_exact r.family f (Equal-from_is_eq _ has) in
            subst (λ g. Contains (value_of s (OfFamily g)).rows r) same (in_family b r here)

    pub from_tests : (are_all_in s ≡ true) × AreAllAgreed (value_of s)
    from_tests = (inner.0, agreed_from)

  -- ---- to the tests

  module _ (inside : are_all_in s ≡ true) (agreed : AreAllAgreed (value_of s)) where
    -- a row of some value
    both_stand : (b : Book) (r : Row) → Contains (value_of s b).rows r → stands s r ≡ true
    both_stand b r here = and_from _ _
        (stands_from (OfKey r.key) r (agreed.everywhere b (OfKey r.key) r here (ap is_eq (tied_itself key_total r.key))))
        (stands_from (OfFamily r.family) r (agreed.everywhere b (OfFamily r.family) r here (ap is_eq (tied_itself id_total r.family))))

    key_place_of : (p : KeyPlace) → Contains s.keys p → key_place s p.key ≡ Some p
    key_place_of p among = item_at-from_contains key_cmp key_total place_key s.keys p is.keys_rise among

    family_place_of : (p : FamilyPlace) → Contains s.families p → family_place s p.family ≡ Some p
    family_place_of p among = item_at-from_contains id_cmp id_total place_family s.families p is.families_rise among

    keys_pass : list_all (λ p. row_stands s (row_held p)) s.keys ≡ true
    keys_pass = all_of (λ p. row_stands s (row_held p)) s.keys (λ p among. by_row p among (row_held p) refl)
      where
        by_row : (p : KeyPlace) → Contains s.keys p → (o : Option Row) → row_held p ≡ o → row_stands s o ≡ true
        by_row p among None e = refl
        by_row p among (Some r) e =
            let here : Contains (key_value_or (key_place s p.key) (book (OfKey p.key) s.rest)).rows r =
            subst (λ q. Contains (key_value_or q (book (OfKey p.key) s.rest)).rows r) (sym (key_place_of p among))
            (option_in (row_held p) r e) in
            both_stand (OfKey p.key) r here

    families_pass : list_all (λ p. book_stands s p.held) s.families ≡ true
    families_pass = all_of (λ p. book_stands s p.held) s.families (λ p among. by_book p among p.held refl)
      where
        by_book : (p : FamilyPlace) → Contains s.families p → (o : Option FamilyBook) → p.held ≡ o → book_stands s o ≡ true
        by_book p among None e = refl
        by_book p among (Some b) e = all_of (stands s) b.rows (λ r there.
            let here : Contains (family_value_or (family_place s p.family) (book (OfFamily p.family) s.rest)).rows r =
            subst (λ q. Contains (family_value_or q (book (OfFamily p.family) s.rest)).rows r) (sym (family_place_of p among))
            (subst (λ o. Contains (ledger_of_family o).rows r) (sym e) there) in
            both_stand (OfFamily p.family) r here)

    others_pass : list_all (rest_stands s) s.rest.rows ≡ true
    others_pass = all_of (rest_stands s) s.rest.rows (λ r among. by_key r among (key_place s r.key) refl)
      where
        by_key : (r : Row) → Contains s.rest.rows r → (q : Option KeyPlace) → key_place s r.key ≡ q → rest_stands s r ≡ true
        by_key r among None e =
            let here : Contains (key_value_or (key_place s r.key) (book (OfKey r.key) s.rest)).rows r =
            subst (λ q. Contains (key_value_or q (book (OfKey r.key) s.rest)).rows r) (sym e)
            (Contains-filter_kept (has_row (OfKey r.key)) s.rest.rows r among (ap is_eq (tied_itself key_total r.key))) in
            or_right (is_kept_out s r) (stands s r) (both_stand (OfKey r.key) r here)
        by_key r among (Some p) e = second (family_place s r.family) refl
          where
            second : (q : Option FamilyPlace) → family_place s r.family ≡ q → rest_stands s r ≡ true
            second None f =
                let here : Contains (family_value_or (family_place s r.family) (book (OfFamily r.family) s.rest)).rows r =
                subst (λ q. Contains (family_value_or q (book (OfFamily r.family) s.rest)).rows r) (sym f)
                (Contains-filter_kept (has_row (OfFamily r.family)) s.rest.rows r among (ap is_eq (tied_itself id_total r.family))) in
                or_right (is_kept_out s r) (stands s r) (both_stand (OfFamily r.family) r here)
            second (Some q) f =
                let both : is_kept_out s r ≡ true = and_from _ _ (ap is_some e) (ap is_some f) in
                rw both refl

    pub to_tests : agree s ≡ true
    to_tests = and_from _ _ (and_from _ _ (and_from _ _ inside keys_pass) families_pass) others_pass

  pub tests_tell : (told : Bool) → told ≡ agree s → IsTrue told ↔ ((are_all_in s ≡ true) × AreAllAgreed (value_of s))
  tests_tell told e = (λ t. from_tests (sym e ∙ t), λ both. e ∙ to_tests both.0 both.1)
