-- What a parcel whose books agree answers on the ledger of its books only.
use Rattle.std.proofs.Common.{◌≡◌, ℕ, List, [], map, Bool, true, false, Option, Some, None, IsSome, refl, sym, ap, subst, ◌∙◌, arith}
use Rattle.std.specs.List.{All, Contains, filter, find}
use Rattle.std.specs.Cmp.{IsTotalOrder}
use Rattle.std.specs.Option.{is_some, option_and_then, option_map, option_to_list}
use Rattle.std.specs.Ordering.{is_eq}
use Rattle.std.specs.declared.cmp.Ordering.{Ordering}
use Rattle.std.proofs.lemmas.Cmp.{tied_itself}
use Rattle.std.proofs.lemmas.List.Elements.{All-cons, All-contains, All-nil}
use Rattle.rx_fields.specs.Order.{id_cmp, key_cmp}
use Rattle.rx_fields.specs.declared.key.Key.{Key}
use Rattle.rx_sorted.specs.Ascending.{contains_key, item_at, itself}
use Rattle.rx_sorted.proofs.LookUps.{item_at-found, item_at-map}
use Rattle.rx_ledger.specs.declared.row.Row.{Row}
use Rattle.rx_ledger.specs.Ledger.{Ledger, is_listed, is_taken, members_of, row_under, rows_of}
use Rattle.rx_ledger.specs.Members.{of_family, person_in}
use Rattle.rx_ledger.specs.Rows.{claimed_by, row_key}
use Rattle.rx_ledger.proofs.Orders.{id_exact, id_total, key_exact, key_total}
use Rattle.rx_books_family.specs.declared.key_book.KeyBook.{KeyBook}
use Rattle.rx_books_family.specs.Books.{Book, OfFamily, OfKey, book, has_row}
use Rattle.rx_books_family.specs.FamilyBook.{FamilyBook, IsOwn, family_of, ledger_of_family, own_ledger}
use Rattle.rx_books_parcel.specs.Footprints.{names}
use Rattle.rx_books_parcel.specs.Parcels.{Agrees, HasOwnRow, IsParcel, ParcelParts, family_at, key_of, ledger_in}
use Rattle.rx_books_parcel.specs.Parcels.{named_in, row_at, rows_at, values_of}
use Rattle.rx_books_family.proofs.BookValues.{IsValue}
use Rattle.rx_books_parcel.proofs.Agreed.{book_of_sub}
use Rattle.rx_books_family.proofs.Families.{members_theirs, persons_found, rows_theirs}
use Rattle.rx_sorted.proofs.Filters.{find_filter}

-- ---- what is held

some_map : {A B : Type 0} (f : A → B) (o : Option A) → is_some (option_map f o) ≡ is_some o
some_map f None = refl
some_map f (Some x) = refl

-- a book is held where its name is among the names
pub held_is : {X K : Type 0} (cmp : K → K → Ordering) → IsTotalOrder cmp → (key : X → K) (xs : List X) (k : K)
    → contains_key cmp itself (map key xs) k ≡ contains_key cmp key xs k
held_is cmp order key xs k =
    ap is_some (item_at-map cmp order key itself key (λ x. refl) xs k) ∙ some_map key (item_at cmp key xs k)

pub key_held : (p : ParcelParts) (k : Key) → names (named_in p) (OfKey k) ≡ contains_key key_cmp key_of p.keys k
key_held p k = held_is key_cmp key_total key_of p.keys k

pub family_held : (p : ParcelParts) (f : List ℕ)
    → names (named_in p) (OfFamily f) ≡ contains_key id_cmp family_of p.families f
family_held p f = held_is id_cmp id_total family_of p.families f

-- the book of a family that is held
pub book_held : (p : ParcelParts) (f : List ℕ) → names (named_in p) (OfFamily f) ≡ true
    → (b : FamilyBook) × (family_at p f ≡ Some b)
book_held p f n = some (family_at p f) (sym (family_held p f) ∙ n)
  where
    some : (o : Option FamilyBook) → is_some o ≡ true → (b : FamilyBook) × (o ≡ Some b)
    some None h = absurd (let e : false ≡ true = h in cc)
    some (Some b) h = (b, refl)

module _ (p : ParcelParts) (is : IsParcel p) where
  -- the book found has the family's name, and is its own
  pub family_found : (f : List ℕ) (b : FamilyBook) → family_at p f ≡ Some b → (b.family ≡ f) × IsOwn b
  family_found f b there =
      let found = item_at-found id_cmp id_total family_of p.families f b there in
      (id_exact b.family f found.1, All-contains IsOwn p.families b is.families_own found.0)

  pub period_found : (f : List ℕ) (b : FamilyBook) → family_at p f ≡ Some b → b.period ≡ p.period
  period_found f b there =
      let found = item_at-found id_cmp id_total family_of p.families f b there in
      All-contains (λ (c : FamilyBook). c.period ≡ p.period) p.families b is.one_period found.0

  -- the row in a key's book has the key
  pub row_found : (k : Key) (r : Row) → row_at p k ≡ Some r → r.key ≡ k
  row_found k r there = by_book (item_at key_cmp key_of p.keys k) refl there
    where
      own_row : (s : KeyBook) → HasOwnRow s → s.row ≡ Some r → r.key ≡ s.key
      own_row s own e = rw e at own

      by_book : (o : Option KeyBook) → item_at key_cmp key_of p.keys k ≡ o
          → option_and_then (λ (b : KeyBook). b.row) o ≡ Some r → r.key ≡ k
      by_book None e h = absurd (cc h)
      by_book (Some s) e h =
          let found = item_at-found key_cmp key_total key_of p.keys k s e in
          own_row s (All-contains HasOwnRow p.keys s is.rows_own found.0) h ∙ key_exact s.key k found.1

  -- ---- its values

  key_value : (k : Key) → IsValue (OfKey k) (values_of p (OfKey k))
  key_value k = by_row (row_at p k) (λ r there. row_found k r there)
    where
      by_row : (o : Option Row) → ((r : Row) → o ≡ Some r → r.key ≡ k)
          → IsValue (OfKey k) (record { members = []; rows = option_to_list o })
      by_row None own = record {
        order = record { members_rise = tt; rows_rise = tt };
        members_own = All-nil _;
        rows_own = All-nil _;
      }
      by_row (Some r) own =
          let here : is_eq (key_cmp r.key k) ≡ true = rw (own r refl) (ap is_eq (tied_itself key_total k)) in
          record {
            order = record { members_rise = tt; rows_rise = (tt, tt) };
            members_own = All-nil _;
            rows_own = All-cons (λ s. has_row (OfKey k) s ≡ true) r [] here (All-nil _);
          }

  family_value : (f : List ℕ) → IsValue (OfFamily f) (values_of p (OfFamily f))
  family_value f = by_book (family_at p f) (λ b there. family_found f b there)
    where
      by_book : (o : Option FamilyBook) → ((b : FamilyBook) → o ≡ Some b → (b.family ≡ f) × IsOwn b)
          → IsValue (OfFamily f) (ledger_of_family o)
      by_book None own = record {
        order = record { members_rise = tt; rows_rise = tt };
        members_own = All-nil _;
        rows_own = All-nil _;
      }
      by_book (Some b) own =
          let theirs = own b refl in
          record {
            order = record { members_rise = theirs.1.in_order.members_rise; rows_rise = theirs.1.in_order.rows_rise };
            members_own = subst (λ g. All (λ m. of_family g m ≡ true) b.members) theirs.0 (members_theirs b theirs.1);
            rows_own = subst (λ g. All (λ r. claimed_by g r ≡ true) b.rows) theirs.0 (rows_theirs b theirs.1);
          }

  pub values_are : (b : Book) → IsValue b (values_of p b)
  values_are (OfKey k) = key_value k
  values_are (OfFamily f) = family_value f

  -- ---- where its books agree

  module _ (agreed : Agrees p) where
    pub books_are : (b : Book) → names (named_in p) b ≡ true → book b (ledger_in p) ≡ values_of p b
    books_are b n = book_of_sub (named_in p) (values_of p) (λ c m. values_are c) agreed b n

    pub row_read : (k : Key) → names (named_in p) (OfKey k) ≡ true → row_under (ledger_in p) k ≡ row_at p k
    row_read k n =
        let q : Row → Bool = has_row (OfKey k) in
        let kept : filter q (ledger_in p).rows ≡ option_to_list (row_at p k) =
        ap (λ (M : Ledger). M.rows) (books_are (OfKey k) n) in
        sym (find_filter q q (ledger_in p).rows (λ r h. h)) ∙ ap (find q) kept
        ∙ one (row_at p k) (λ r there. row_found k r there)
      where
        one : (o : Option Row) → ((r : Row) → o ≡ Some r → r.key ≡ k) → find (has_row (OfKey k)) (option_to_list o) ≡ o
        one None own = refl
        one (Some r) own =
            let here : is_eq (key_cmp r.key k) ≡ true = rw (own r refl) (ap is_eq (tied_itself key_total k)) in
            rw here

    pub members_read : (f : List ℕ) → names (named_in p) (OfFamily f) ≡ true
        → members_of (ledger_in p) f ≡ (values_of p (OfFamily f)).members
    members_read f n = ap (λ (M : Ledger). M.members) (books_are (OfFamily f) n)

    pub rows_read : (f : List ℕ) → names (named_in p) (OfFamily f) ≡ true → rows_of (ledger_in p) f ≡ rows_at p f
    rows_read f n = ap (λ (M : Ledger). M.rows) (books_are (OfFamily f) n)

    -- a key that is free is free in each family's book
    pub free_in_family : (f : List ℕ) (b : FamilyBook) (k : Key) → names (named_in p) (OfFamily f) ≡ true
        → names (named_in p) (OfKey k) ≡ true → family_at p f ≡ Some b → row_at p k ≡ None
        → is_taken (own_ledger b) k ≡ false
    free_in_family f b k nf nk there free = by_row (row_under (own_ledger b) k) refl
      where
        none : (r : Row) → Contains (option_to_list (row_at p k)) r → ⊥
        none r among = let nobody = subst (λ o. Contains (option_to_list o) r) free among in omega (arith, nobody.1)

        by_row : (o : Option Row) → row_under (own_ledger b) k ≡ o → is_some o ≡ false
        by_row None e = refl
        by_row (Some r) e =
            let found = item_at-found key_cmp key_total row_key b.rows k r e in
            let here : Contains (values_of p (OfFamily f)).rows r =
            subst (λ o. Contains (ledger_of_family o).rows r) (sym there) found.0 in
            absurd (none r (agreed.everywhere (OfFamily f) (OfKey k) r nf nk here (ap is_eq found.1)))

-- who is found in a family's book is listed there
pub listed_there : (b : FamilyBook) → IsOwn b → (person : List ℕ) → IsSome (person_in b.members person)
    → is_listed (own_ledger b) (record { family = b.family; person = person }) ≡ true
listed_there b own person found = ap is_some (persons_found b.family b.members own.members_own person) ∙ found
