-- The books of a shelf whose books are all in and agree: they have the members in the ledger, and under each key the row of the
-- key's book.
use Rattle.std.proofs.Common.{◌≡◌, ℕ, List, [], ◌∷◌, true, false, Option, Some, None, refl, sym, ap, subst, ◌∙◌, arith}
use Rattle.std.specs.Prelude.{IfSome}
use Rattle.std.specs.List.{All, Contains, filter}
use Rattle.std.specs.Option.{is_some, option_to_list}
use Rattle.std.specs.Ordering.{is_eq}
use Rattle.std.proofs.lemmas.Bool.{and_parts}
use Rattle.std.proofs.lemmas.Cmp.{tied_itself}
use Rattle.std.proofs.lemmas.List.Elements.{All-contains, All-contains_itself, All-weaker}
use Rattle.rx_fields.specs.Order.{id_cmp, key_cmp}
use Rattle.rx_sorted.specs.Ascending.{contains_key, item_at}
use Rattle.rx_sorted.specs.Overlaid.{overlaid}
use Rattle.rx_sorted.proofs.Edits.{same_members}
use Rattle.rx_sorted.proofs.Filters.{Contains-filter, Contains-filter_kept}
use Rattle.rx_sorted.proofs.Keys.{Equal-from_is_eq}
use Rattle.rx_sorted.proofs.Kept.{IsAscending-filter}
use Rattle.rx_sorted.proofs.LookUps.{item_at-found, item_at-from_contains, item_at-tied}
use Rattle.rx_ledger.specs.declared.member.Member.{Member}
use Rattle.rx_ledger.specs.declared.member.MemberKey.{MemberKey}
use Rattle.rx_ledger.specs.declared.row.Row.{Row}
use Rattle.rx_ledger.specs.Ledger.{Ledger, is_listed, members_of}
use Rattle.rx_ledger.specs.Members.{member_cmp, member_key, of_family}
use Rattle.rx_ledger.specs.Rows.{claimed_by, member_of_row, row_key}
use Rattle.rx_ledger.proofs.Orders.{id_exact, id_total, key_total, member_total}
use Rattle.rx_books_family.specs.Books.{Book, OfFamily, OfKey, book, has_member}
use Rattle.rx_books_family.specs.FamilyBook.{FamilyBook, ledger_of_family}
use Rattle.rx_books_family.proofs.BookValues.{IsValue, ledger_path}
use Rattle.rx_books_family.specs.declared.place.FamilyPlace.{FamilyPlace}
use Rattle.rx_books_family.specs.declared.place.KeyPlace.{KeyPlace}
use Rattle.rx_books_family.specs.Amended.{is_among}
use Rattle.rx_books_family.specs.Shelves.{AreAllAgreed, IsOwnBook, IsShelf, ShelfParts, family_place, family_value, family_value_or, key_place}
use Rattle.rx_books_family.specs.Shelves.{key_value_or, place_family, place_key, row_held, value_of}
use Rattle.rx_books_family.proofs.Amended.{among_then, each, rows_of_book}
use Rattle.rx_books_family.proofs.Valued.{held_book_own, shelf_value}
use Rattle.rx_books_shelf.specs.Closed.{are_members_kept, does_book_keep, is_in_place, is_member_held}

-- ---- members

module _ (s : ShelfParts) (is : IsShelf s) where
  -- each family's value has the members in the ledger
  module _ (kept : are_members_kept s ≡ true) where
    same_as_beside : (f : List ℕ) → (value_of s (OfFamily f)).members ≡ members_of s.rest f
    same_as_beside f = by_place (family_place s f) refl
      where
        by_place : (q : Option FamilyPlace) → family_place s f ≡ q
            → (family_value_or q (book (OfFamily f) s.rest)).members ≡ members_of s.rest f
        by_place None e = refl
        by_place (Some p) e =
            let both = and_parts _ _ kept in
            let found = item_at-found id_cmp id_total place_family s.families f p e in
            let at : value_of s (OfFamily f) ≡ family_value p = ap (λ q. family_value_or q (book (OfFamily f) s.rest)) e in
            let value : IsValue (OfFamily f) (family_value p) = subst (IsValue (OfFamily f)) at (shelf_value s is (OfFamily f)) in
            let rise = is.rest_in_order.members_rise in
            same_members member_cmp member_total member_key (family_value p).members (members_of s.rest f) value.order.members_rise
            (IsAscending-filter member_cmp member_total member_key (of_family f) s.rest.members rise)
            (λ m among. Contains-filter_kept (of_family f) s.rest.members m
            (among_then s.rest.members m (each (is_among s.rest.members) (family_value p).members m
            (each (does_book_keep s) s.families p both.1 found.0) among))
            (All-contains (λ n. has_member (OfFamily f) n ≡ true) (family_value p).members m value.members_own among))
            (λ m among.
            let parts = Contains-filter (of_family f) s.rest.members m among in
            let theirs : m.key.family ≡ f = id_exact m.key.family f (Equal-from_is_eq _ parts.1) in
            let test : is_in_place (family_place s m.key.family) m ≡ true = each (is_member_held s) s.rest.members m both.0 parts.0 in
            let here : is_in_place (Some p) m ≡ true = subst (λ q. is_in_place q m ≡ true) (ap (family_place s) theirs ∙ e) test in
            among_then (family_value p).members m here)

  -- ---- rows

  abbrev closed : Ledger
  closed = record { members = s.rest.members; rows = overlaid key_cmp row_key place_key row_held s.rest.rows s.keys }

  module _ (agreed : AreAllAgreed (value_of s)) where
    -- each book has its value
    pub values_closed : are_members_kept s ≡ true → (b : Book) → book b closed ≡ value_of s b
    values_closed kept (OfKey k) = ledger_path (book (OfKey k) closed) (value_of s (OfKey k)) (no_members (key_place s k))
        (rows_of_book s is agreed (OfKey k))
      where
        none : (ms : List Member) → filter (has_member (OfKey k)) ms ≡ []
        none [] = refl
        none (m ∷ ms) = none ms

        no_members : (q : Option KeyPlace) → filter (has_member (OfKey k)) s.rest.members ≡ (key_value_or q (book (OfKey k)
            s.rest)).members
        no_members None = refl
        no_members (Some p) = none s.rest.members
    values_closed kept (OfFamily f) = ledger_path (book (OfFamily f) closed) (value_of s (OfFamily f)) (sym (same_as_beside kept f))
        (rows_of_book s is agreed (OfFamily f))

    -- ---- the rows that places hold are those of listed members

    listed_in : (f : List ℕ) (k : MemberKey) → contains_key member_cmp member_key (members_of s.rest f) k ≡ true
        → is_listed s.rest k ≡ true
    listed_in f k h = by_member (item_at member_cmp member_key (members_of s.rest f) k) refl h
      where
        by_member : (o : Option Member) → item_at member_cmp member_key (members_of s.rest f) k ≡ o → is_some o ≡ true
            → is_listed s.rest k ≡ true
        by_member None e w = absurd (let v : false ≡ true = w in cc)
        by_member (Some m) e w =
            let found = item_at-found member_cmp member_total member_key (members_of s.rest f) k m e in
            let parts = Contains-filter (of_family f) s.rest.members m found.0 in
            ap is_some (sym (item_at-tied member_cmp member_total member_key s.rest.members m.key k found.1)
            ∙ item_at-from_contains member_cmp member_total member_key s.rest.members m is.rest_in_order.members_rise parts.0)

    row_listed : are_members_kept s ≡ true → (r : Row) → Contains (value_of s (OfFamily r.family)).rows r
        → is_listed s.rest (member_of_row r) ≡ true
    row_listed kept r among = by_place (family_place s r.family) refl among
      where
        by_book : (o : Option FamilyBook) → IfSome o (IsOwnBook s.period r.family) → Contains (ledger_of_family o).rows r
            → contains_key member_cmp member_key (ledger_of_family o).members (member_of_row r) ≡ true
        by_book None own here = absurd (omega (arith, here.1))
        by_book (Some b) own here =
            each (λ x. contains_key member_cmp member_key b.members (member_of_row x)) b.rows r own.own.in_order.whole here

        by_place : (q : Option FamilyPlace) → family_place s r.family ≡ q
            → Contains (family_value_or q (book (OfFamily r.family) s.rest)).rows r → is_listed s.rest (member_of_row r) ≡ true
        by_place None e here =
            let parts = Contains-filter (claimed_by r.family) s.rest.rows r here in
            each (λ x. is_listed s.rest (member_of_row x)) s.rest.rows r is.rest_in_order.whole parts.0
        by_place (Some p) e here =
            let at : family_value p ≡ value_of s (OfFamily r.family) = sym (ap (λ q. family_value_or q (book (OfFamily r.family)
            s.rest)) e) in
            let members : (family_value p).members ≡ members_of s.rest r.family = ap (λ (M : Ledger). M.members) at
            ∙ same_as_beside kept r.family in
            listed_in r.family (member_of_row r) (subst (λ ms. contains_key member_cmp member_key ms (member_of_row r) ≡ true) members
            (by_book p.held (held_book_own s is r.family p e) here))

    pub places_listed : are_members_kept s ≡ true → All (λ p. IfSome (row_held p) (λ r. is_listed s.rest (member_of_row r) ≡ true)) s.keys
    places_listed kept = All-weaker (Contains s.keys) (λ p. IfSome (row_held p) (λ r. is_listed s.rest (member_of_row r) ≡ true))
        (λ p among. by_row p among (row_held p) refl) s.keys (All-contains_itself s.keys)
      where
        by_row : (p : KeyPlace) → Contains s.keys p → (o : Option Row) → row_held p ≡ o
            → IfSome o (λ (r : Row). is_listed s.rest (member_of_row r) ≡ true)
        by_row p among None e = tt
        by_row p among (Some r) e =
            let at : key_place s p.key ≡ Some p = item_at-from_contains key_cmp key_total place_key s.keys p is.keys_rise among in
            let here : Contains (value_of s (OfKey p.key)).rows r =
            subst (λ q. Contains (key_value_or q (book (OfKey p.key) s.rest)).rows r) (sym at)
            (subst (λ o. Contains (option_to_list o) r) (sym e) (0, omega arith, refl)) in
            row_listed kept r (agreed.everywhere (OfKey p.key) (OfFamily r.family) r here (ap is_eq (tied_itself id_total r.family)))
