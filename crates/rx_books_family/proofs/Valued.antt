-- The values of a shelf's books: each in order, and with members and rows of its own only.
use Rattle.std.proofs.Common.{◌≡◌, ℕ, List, [], Bool, true, Option, Some, None, refl, ap, subst, ◌∙◌}
use Rattle.std.specs.Prelude.{IfSome}
use Rattle.std.specs.List.{All}
use Rattle.std.specs.Bool.{then_some}
use Rattle.std.specs.Option.{option_and_then, option_to_list}
use Rattle.std.specs.Ordering.{is_eq}
use Rattle.std.proofs.lemmas.Cmp.{tied_itself}
use Rattle.std.proofs.lemmas.List.Elements.{All-cons, All-contains, All-nil, filter_passes}
use Rattle.rx_fields.specs.Numbered.{Span}
use Rattle.rx_fields.specs.Order.{id_cmp, key_cmp}
use Rattle.rx_fields.specs.declared.key.Key.{Key}
use Rattle.rx_sorted.specs.Ascending.{item_at}
use Rattle.rx_sorted.proofs.Kept.{IsAscending-filter}
use Rattle.rx_sorted.proofs.LookUps.{item_at-filter, item_at-found}
use Rattle.rx_ledger.specs.declared.row.Row.{Row}
use Rattle.rx_ledger.specs.Ledger.{IsLedger, Ledger, row_under}
use Rattle.rx_ledger.specs.Members.{member_cmp, member_key, of_family}
use Rattle.rx_ledger.specs.Rows.{claimed_by, row_key}
use Rattle.rx_ledger.proofs.Orders.{id_exact, id_total, key_exact, key_total, member_total}
use Rattle.rx_books_family.specs.Books.{Book, OfFamily, OfKey, book, has_member, has_row}
use Rattle.rx_books_family.specs.FamilyBook.{FamilyBook, ledger_of_family}
use Rattle.rx_books_family.proofs.BookValues.{IsValue}
use Rattle.rx_books_family.proofs.Families.{members_theirs, rows_theirs}
use Rattle.rx_books_family.specs.declared.place.FamilyPlace.{FamilyPlace}
use Rattle.rx_books_family.specs.declared.place.KeyPlace.{KeyPlace}
use Rattle.rx_books_family.specs.Shelves.{HoldsOwnBook, HoldsOwnRow, IsOwnBook, IsShelf, ShelfParts, family_place, family_value_or, key_place}
use Rattle.rx_books_family.specs.Shelves.{key_value_or, place_family, place_key, row_held, value_of}

-- the book of a ledger
pub book_value : (L : Ledger) → IsLedger L → (b : Book) → IsValue b (book b L)
book_value L is b = record {
  order = record {
    members_rise = IsAscending-filter member_cmp member_total member_key (has_member b) L.members is.members_rise;
    rows_rise = IsAscending-filter key_cmp key_total row_key (has_row b) L.rows is.rows_rise;
  };
  members_own = filter_passes (has_member b) L.members;
  rows_own = filter_passes (has_row b) L.rows;
}

-- one row, or none
pub row_value : (k : Key) (o : Option Row) → IfSome o (λ r. r.key ≡ k)
    → IsValue (OfKey k) (record { members = []; rows = option_to_list o })
row_value k None own = record {
  order = record { members_rise = tt; rows_rise = tt };
  members_own = All-nil _;
  rows_own = All-nil _;
}
row_value k (Some r) own =
    let here : is_eq (key_cmp r.key k) ≡ true = ap (λ j. is_eq (key_cmp j k)) own ∙ ap is_eq (tied_itself key_total k) in
    record {
      order = record { members_rise = tt; rows_rise = (tt, tt) };
      members_own = All-nil _;
      rows_own = All-cons (λ s. has_row (OfKey k) s ≡ true) r [] here (All-nil _);
    }

-- a family's book, or none
pub family_book_value : (period : Span) (f : List ℕ) (o : Option FamilyBook) → IfSome o (IsOwnBook period f)
    → IsValue (OfFamily f) (ledger_of_family o)
family_book_value period f None own = record {
  order = record { members_rise = tt; rows_rise = tt };
  members_own = All-nil _;
  rows_own = All-nil _;
}
family_book_value period f (Some b) own = record {
  order = record { members_rise = own.own.in_order.members_rise; rows_rise = own.own.in_order.rows_rise };
  members_own = subst (λ g. All (λ m. of_family g m ≡ true) b.members) own.name (members_theirs b own.own);
  rows_own = subst (λ g. All (λ r. claimed_by g r ≡ true) b.rows) own.name (rows_theirs b own.own);
}

module _ (s : ShelfParts) (is : IsShelf s) where
  pub held_row_own : (k : Key) (p : KeyPlace) → key_place s k ≡ Some p → IfSome (row_held p) (λ (r : Row). r.key ≡ k)
  held_row_own k p e =
      let found = item_at-found key_cmp key_total place_key s.keys k p e in
      subst (λ j. IfSome (row_held p) (λ (r : Row). r.key ≡ j)) (key_exact p.key k found.1)
      (All-contains HoldsOwnRow s.keys p is.rows_own found.0)

  pub held_book_own : (f : List ℕ) (p : FamilyPlace) → family_place s f ≡ Some p → IfSome p.held (IsOwnBook s.period f)
  held_book_own f p e =
      let found = item_at-found id_cmp id_total place_family s.families f p e in
      subst (λ g. IfSome p.held (IsOwnBook s.period g)) (id_exact p.family f found.1)
      (All-contains (HoldsOwnBook s.period) s.families p is.books_own found.0)

  pub shelf_value : (b : Book) → IsValue b (value_of s b)
  shelf_value (OfKey k) = by_place (key_place s k) refl
    where
      by_place : (q : Option KeyPlace) → key_place s k ≡ q → IsValue (OfKey k) (key_value_or q (book (OfKey k) s.rest))
      by_place None e = book_value s.rest is.rest_in_order (OfKey k)
      by_place (Some p) e = row_value k (row_held p) (held_row_own k p e)
  shelf_value (OfFamily f) = by_place (family_place s f) refl
    where
      by_place : (q : Option FamilyPlace) → family_place s f ≡ q → IsValue (OfFamily f) (family_value_or q (book (OfFamily f) s.rest))
      by_place None e = book_value s.rest is.rest_in_order (OfFamily f)
      by_place (Some p) e = family_book_value s.period f p.held (held_book_own f p e)

  -- ---- the row under a key

  then_found : (k : Key) (p : Row → Bool) (o : Option Row) → ((r : Row) → o ≡ Some r → p r ≡ true)
      → option_and_then (λ r. then_some (p r) r) o ≡ o
  then_found k p None h = refl
  then_found k p (Some r) h = let t = h r refl in rw t refl

  -- in the value of the key's book
  pub key_row_beside : (k : Key) → row_under (book (OfKey k) s.rest) k ≡ row_under s.rest k
  key_row_beside k =
      item_at-filter key_cmp key_total row_key (has_row (OfKey k)) s.rest.rows k is.rest_in_order.rows_rise
      ∙ then_found k (has_row (OfKey k)) (row_under s.rest k)
      (λ r e. let found = item_at-found key_cmp key_total row_key s.rest.rows k r e in ap is_eq found.1)

  pub key_row_held : (k : Key) (p : KeyPlace) → key_place s k ≡ Some p
      → row_under (record { members = []; rows = option_to_list (row_held p) }) k ≡ row_held p
  key_row_held k p e = by_row (row_held p) (held_row_own k p e)
    where
      by_row : (o : Option Row) → IfSome o (λ (r : Row). r.key ≡ k) → item_at key_cmp row_key (option_to_list o) k ≡ o
      by_row None own = refl
      by_row (Some r) own =
          let here : is_eq (key_cmp r.key k) ≡ true = ap (λ j. is_eq (key_cmp j k)) own ∙ ap is_eq (tied_itself key_total k) in
          rw here refl

  -- in the value of a family's book
  pub family_row_beside : (f : List ℕ) (k : Key)
      → row_under (book (OfFamily f) s.rest) k ≡ option_and_then (λ r. then_some (claimed_by f r) r) (row_under s.rest k)
  family_row_beside f k = item_at-filter key_cmp key_total row_key (claimed_by f) s.rest.rows k is.rest_in_order.rows_rise
