-- The ledger that a shelf's books make together: where they agree, each book of it has the value of the shelf's.
use Rattle.std.proofs.Common.{◌≡◌, ℕ, zero, suc, List, [], ◌∷◌, map, Bool, true, false, not, Option, Some, None, refl, sym, ap, subst}
use Rattle.std.proofs.Common.{◌∙◌, inl, inr, arith}
use Rattle.std.specs.Prelude.{◌⊎◌, IfSome}
use Rattle.std.specs.List.{All, Contains, filter, list_all}
use Rattle.std.specs.Option.{is_some, option_to_list}
use Rattle.std.specs.Ordering.{is_eq}
use Rattle.std.proofs.lemmas.Cmp.{tied_itself}
use Rattle.std.proofs.lemmas.List.Elements.{All-cons, All-contains, All-contains_itself, All-map, All-nil, All-weaker}
use Rattle.std.proofs.lemmas.List.Sums.{AllPass-from_list_all, list_all-from_AllPass}
use Rattle.rx_fields.specs.Numbered.{Span}
use Rattle.rx_fields.specs.Order.{id_cmp, key_cmp}
use Rattle.rx_fields.specs.declared.key.Key.{Key}
use Rattle.rx_sorted.specs.Ascending.{IsAscending, contains_key, item_at}
use Rattle.rx_sorted.specs.Joined.{Agree, joined}
use Rattle.rx_sorted.specs.Overlaid.{HoldsOwn, IsUnder, found_under}
use Rattle.rx_sorted.proofs.Agreeing.{item_at-joined, item_at-joined_from}
use Rattle.rx_sorted.proofs.Edits.{put_all-nil, same_item, same_members}
use Rattle.rx_sorted.proofs.Filters.{Contains-filter, Contains-filter_kept, filter_all}
use Rattle.rx_sorted.proofs.Joined.{IsAscending-joined}
use Rattle.rx_sorted.proofs.Keys.{Equal-from_is_eq}
use Rattle.rx_sorted.proofs.Kept.{IsAscending-filter}
use Rattle.rx_sorted.proofs.LookUps.{item_at-found, item_at-from_contains}
use Rattle.rx_sorted.proofs.Overlaid.{IsAscending-overlaid, item_at-overlaid}
use Rattle.rx_ledger.specs.declared.member.Member.{Member}
use Rattle.rx_ledger.specs.declared.member.MemberKey.{MemberKey}
use Rattle.rx_ledger.specs.declared.row.Row.{Row}
use Rattle.rx_ledger.specs.Ledger.{IsLedger, Ledger, is_listed, is_whole, row_under}
use Rattle.rx_ledger.specs.Members.{member_cmp, member_key, of_family}
use Rattle.rx_ledger.specs.Rows.{claimed_by, member_of_row, row_key}
use Rattle.rx_ledger.proofs.Decided.{member_decides}
use Rattle.rx_ledger.proofs.Orders.{id_exact, id_total, key_total, member_exact, member_total}
use Rattle.rx_books_family.specs.Books.{Book, OfFamily, OfKey, book, has_member, has_row}
use Rattle.rx_books_family.specs.FamilyBook.{FamilyBook, ledger_of_family}
use Rattle.rx_books_family.proofs.BookValues.{IsValue, ledger_path}
use Rattle.rx_books_family.specs.declared.place.FamilyPlace.{FamilyPlace}
use Rattle.rx_books_family.specs.declared.place.KeyPlace.{KeyPlace}
use Rattle.rx_books_family.specs.Amended.{IsAmended, amended, is_among, is_member_found, is_unkeyed, is_unplaced, members_held}
use Rattle.rx_books_family.specs.Shelves.{AreAllAgreed, HoldsOwnBook, HoldsOwnRow, IsOwnBook, IsShelf, ShelfParts, family_place, family_value}
use Rattle.rx_books_family.specs.Shelves.{family_value_or, key_place, key_value_or, place_family, place_key, row_held, value_of}
use Rattle.rx_books_family.proofs.Valued.{family_book_value, held_book_own, key_row_beside, key_row_held, shelf_value}

-- ---- small things

pub each : {A : Type 0} (q : A → Bool) (xs : List A) (x : A) → list_all q xs ≡ true → Contains xs x → q x ≡ true
each q xs x h among = All-contains (λ y. q y ≡ true) xs x (AllPass-from_list_all q xs h) among

pub all_of : {A : Type 0} (q : A → Bool) (xs : List A) → ((x : A) → Contains xs x → q x ≡ true) → list_all q xs ≡ true
all_of q xs h = list_all-from_AllPass q xs (All-weaker (Contains xs) (λ x. q x ≡ true) h xs (All-contains_itself xs))

found_member : (m : Member) (o : Option Member) → is_member_found m o ≡ true → o ≡ Some m
found_member m None h = absurd (let w : false ≡ true = h in cc)
found_member m (Some n) h = let same : n ≡ m = (member_decides n m).0 h in ap Some same

pub among_then : (ms : List Member) (m : Member) → is_among ms m ≡ true → Contains ms m
among_then ms m h =
    let found = item_at-found member_cmp member_total member_key ms m.key m
    (found_member m (item_at member_cmp member_key ms m.key) h) in found.0

none_from : {A : Type 0} (o : Option A) → not (is_some o) ≡ true → o ≡ None
none_from None h = refl
none_from (Some x) h = absurd (cc h)

some_from : {A : Type 0} (o : Option A) → is_some o ≡ true → (x : A) × (o ≡ Some x)
some_from None h = absurd (let e : false ≡ true = h in cc)
some_from (Some x) h = (x, refl)

option_in : {A : Type 0} (o : Option A) (x : A) → o ≡ Some x → Contains (option_to_list o) x
option_in o x e = subst (λ q. Contains (option_to_list q) x) (sym e) (0, omega arith, refl)

later : {A : Type 0} (x y : A) (xs : List A) → Contains xs y → Contains (x ∷ xs) y
later x y xs among = (suc among.0, omega (arith, among.1), among.2)

mapped : {A B : Type 0} (f : A → B) (xs : List A) (x : A) → Contains xs x → Contains (map f xs) (f x)
mapped f [] x among = absurd (omega (arith, among.1))
mapped f (y ∷ ys) x (zero, in_range, is) = (0, omega arith, ap f is)
mapped f (y ∷ ys) x (suc i, in_range, is) = later (f y) (f x) (map f ys) (mapped f ys x (i, omega arith, is))

module _ (s : ShelfParts) (is : IsShelf s) where
  -- ---- members

  -- the families without a place together, and each place
  abbrev list_of : Option FamilyPlace → List Member
  list_of None = filter (is_unplaced s.families) s.rest.members
  list_of (Some p) = members_held p

  abbrev IsPlaced : Option FamilyPlace → Type 0
  IsPlaced None = Unit {0}
  IsPlaced (Some p) = Contains s.families p

  abbrev names : List (Option FamilyPlace)
  names = None ∷ map (λ p. Some p) s.families

  placed : All IsPlaced names
  placed = All-cons IsPlaced None (map (λ p. Some p) s.families) tt
      (All-map IsPlaced (λ p. Some p) s.families (All-contains_itself s.families))

  place_named : (p : FamilyPlace) → Contains s.families p → Contains names (Some p)
  place_named p among = later None (Some p) (map (λ q. Some q) s.families) (mapped (λ q. Some q) s.families p among)

  lists_are : (ps : List FamilyPlace) → map list_of (map (λ p. Some p) ps) ≡ map members_held ps
  lists_are [] = refl
  lists_are (p ∷ ps) = ap (λ xs. members_held p ∷ xs) (lists_are ps)

  place_value : (p : FamilyPlace) → Contains s.families p → IsValue (OfFamily p.family) (family_value p)
  place_value p among =
      family_book_value s.period p.family p.held (All-contains (HoldsOwnBook s.period) s.families p is.books_own among)

  place_found : (p : FamilyPlace) → Contains s.families p → family_place s p.family ≡ Some p
  place_found p among = item_at-from_contains id_cmp id_total place_family s.families p is.families_rise among

  -- a member that a place holds is one of its family
  theirs : (p : FamilyPlace) (m : Member) → Contains s.families p → Contains (members_held p) m → m.key.family ≡ p.family
  theirs p m among there =
      let value = place_value p among in
      id_exact m.key.family p.family (Equal-from_is_eq _
      (All-contains (λ n. has_member (OfFamily p.family) n ≡ true) (family_value p).members m value.members_own there))

  list_rises : (q : Option FamilyPlace) → IsPlaced q → IsAscending member_cmp member_key (list_of q)
  list_rises None here = IsAscending-filter member_cmp member_total member_key (is_unplaced s.families) s.rest.members
      is.rest_in_order.members_rise
  list_rises (Some p) here = let value = place_value p here in value.order.members_rise

  apart : (p : FamilyPlace) (m n : Member) → Contains s.families p → Contains (members_held p) n
      → is_unplaced s.families m ≡ true → m.key ≡ n.key → ⊥
  apart p m n among there free same =
      let family : m.key.family ≡ p.family = ap (λ (k : MemberKey). k.family) same ∙ theirs p n among there in
      let none : family_place s m.key.family ≡ None = none_from (family_place s m.key.family) free in
      let e : None ≡ Some p = sym none ∙ ap (family_place s) family ∙ place_found p among in
      cc

  one_item : (b c : Option FamilyPlace) → IsPlaced b → IsPlaced c → (k : MemberKey) (x y : Member)
      → item_at member_cmp member_key (list_of b) k ≡ Some x → item_at member_cmp member_key (list_of c) k ≡ Some y → x ≡ y
  one_item None None here there k x y h m = let e : Some x ≡ Some y = sym h ∙ m in cc
  one_item None (Some q) here there k x y h m =
      let at_x = item_at-found member_cmp member_total member_key (list_of None) k x h in
      let at_y = item_at-found member_cmp member_total member_key (list_of (Some q)) k y m in
      let parts = Contains-filter (is_unplaced s.families) s.rest.members x at_x.0 in
      absurd (apart q x y there at_y.0 parts.1 (member_exact x.key k at_x.1 ∙ sym (member_exact y.key k at_y.1)))
  one_item (Some p) None here there k x y h m =
      let at_x = item_at-found member_cmp member_total member_key (list_of (Some p)) k x h in
      let at_y = item_at-found member_cmp member_total member_key (list_of None) k y m in
      let parts = Contains-filter (is_unplaced s.families) s.rest.members y at_y.0 in
      absurd (apart p y x here at_x.0 parts.1 (member_exact y.key k at_y.1 ∙ sym (member_exact x.key k at_x.1)))
  one_item (Some p) (Some q) here there k x y h m =
      let at_x = item_at-found member_cmp member_total member_key (list_of (Some p)) k x h in
      let at_y = item_at-found member_cmp member_total member_key (list_of (Some q)) k y m in
      let family : p.family ≡ q.family = sym (theirs p x here at_x.0)
      ∙ ap (λ (j : MemberKey). j.family) (member_exact x.key k at_x.1 ∙ sym (member_exact y.key k at_y.1))
      ∙ theirs q y there at_y.0 in
      let places : Some p ≡ Some q = sym (place_found p here) ∙ ap (family_place s) family ∙ place_found q there in
      let same : p ≡ q = cc in
      let e : Some x ≡ Some y = sym h ∙ ap (λ r. item_at member_cmp member_key (members_held r) k) same ∙ m in
      cc

  agree : Agree member_cmp member_key names list_of
  agree = record {
    ascending = λ b among. list_rises b (All-contains IsPlaced names b placed among);
    one = λ b c k x y here there h m. one_item b c (All-contains IsPlaced names b placed here)
        (All-contains IsPlaced names c placed there) k x y h m;
  }

  members_are : joined member_cmp member_key (map list_of names) ≡ (amended s).members
  members_are = ap (λ ls. joined member_cmp member_key (list_of None ∷ ls)) (lists_are s.families)

  pub members_rise : IsAscending member_cmp member_key (amended s).members
  members_rise = IsAscending-joined member_cmp member_total member_key (list_of None ∷ map members_held s.families)

  together : (q : Option FamilyPlace) → Contains names q → (m : Member) → Contains (list_of q) m
      → Contains (amended s).members m
  together q among m there =
      let rise = list_rises q (All-contains IsPlaced names q placed among) in
      let here = item_at-from_contains member_cmp member_total member_key (list_of q) m rise there in
      let all = item_at-joined member_cmp member_total member_key list_of names agree q m.key m among here in
      let found = item_at-found member_cmp member_total member_key (joined member_cmp member_key (map list_of names)) m.key m all in
      subst (λ ms. Contains ms m) members_are found.0

  -- the members without a place are there, and those that places hold; and no others
  pub unplaced_there : (m : Member) → Contains s.rest.members m → is_unplaced s.families m ≡ true → Contains (amended s).members m
  unplaced_there m among free = together None (0, omega arith, refl) m
      (Contains-filter_kept (is_unplaced s.families) s.rest.members m among free)

  pub held_there : (p : FamilyPlace) (m : Member) → Contains s.families p → Contains (members_held p) m
      → Contains (amended s).members m
  held_there p m among there = together (Some p) (place_named p among) m there

  pub member_from : (m : Member) → Contains (amended s).members m
      → (Contains s.rest.members m × (is_unplaced s.families m ≡ true))
      ⊎ ((p : FamilyPlace) × Contains s.families p × Contains (members_held p) m)
  member_from m among =
      let here = item_at-from_contains member_cmp member_total member_key (amended s).members m members_rise among in
      let there : item_at member_cmp member_key (joined member_cmp member_key (map list_of names)) m.key ≡ Some m =
      subst (λ ms. item_at member_cmp member_key ms m.key ≡ Some m) (sym members_are) here in
      let one = item_at-joined_from member_cmp member_total member_key list_of names agree m.key m there in
      let found = item_at-found member_cmp member_total member_key (list_of one.0) m.key m one.2 in
      by_name one.0 (All-contains IsPlaced names one.0 placed one.1) found.0
    where
      by_name : (q : Option FamilyPlace) → IsPlaced q → Contains (list_of q) m
          → (Contains s.rest.members m × (is_unplaced s.families m ≡ true))
          ⊎ ((p : FamilyPlace) × Contains s.families p × Contains (members_held p) m)
      by_name None here there = inl (Contains-filter (is_unplaced s.families) s.rest.members m there)
      by_name (Some p) here there = inr (p, here, there)

  -- a member is there where the value of its family has it
  pub valued_member : (m : Member) → Contains (amended s).members m → Contains (value_of s (OfFamily m.key.family)).members m
  valued_member m among = elim (member_from m among) [
    | inl beside ↦
        let none : family_place s m.key.family ≡ None = none_from (family_place s m.key.family) beside.1 in
        subst (λ q. Contains (family_value_or q (book (OfFamily m.key.family) s.rest)).members m) (sym none)
        (Contains-filter_kept (of_family m.key.family) s.rest.members m beside.0 (ap is_eq (tied_itself id_total m.key.family)))
    | inr held ↦
        let same = theirs held.0 m held.1 held.2 in
        let at : family_place s m.key.family ≡ Some held.0 = ap (family_place s) same ∙ place_found held.0 held.1 in
        subst (λ q. Contains (family_value_or q (book (OfFamily m.key.family) s.rest)).members m) (sym at) held.2
  ]

  pub member_of_value : (m : Member) → Contains (value_of s (OfFamily m.key.family)).members m → Contains (amended s).members m
  member_of_value m among = by_place (family_place s m.key.family) refl among
    where
      by_place : (q : Option FamilyPlace) → family_place s m.key.family ≡ q
          → Contains (family_value_or q (book (OfFamily m.key.family) s.rest)).members m → Contains (amended s).members m
      by_place None e there =
          let parts = Contains-filter (of_family m.key.family) s.rest.members m there in
          unplaced_there m parts.0 (ap (λ o. not (is_some o)) e)
      by_place (Some p) e there =
          let found = item_at-found id_cmp id_total place_family s.families m.key.family p e in
          held_there p m found.0 there

  -- ---- rows

  own_places : All (HoldsOwn key_cmp row_key place_key row_held) s.keys
  own_places = All-weaker HoldsOwnRow (HoldsOwn key_cmp row_key place_key row_held) (λ p own. by_row p.key (row_held p) own) s.keys
      is.rows_own
    where
      by_row : (k : Key) (o : Option Row) → IfSome o (λ (r : Row). r.key ≡ k) → IsUnder key_cmp row_key place_key row_held k o
      by_row k None own = tt
      by_row k (Some r) own = ap (λ j. key_cmp j k) own ∙ tied_itself key_total k

  pub rows_rise : IsAscending key_cmp row_key (amended s).rows
  rows_rise = IsAscending-overlaid key_cmp key_total row_key place_key row_held s.rest.rows s.keys is.rest_in_order.rows_rise

  -- under each key stands what its place holds, else the row in the ledger
  pub row_found : (k : Key)
      → row_under (amended s) k ≡ found_under key_cmp row_key place_key row_held (key_place s k) (row_under s.rest k)
  row_found k =
      item_at-overlaid key_cmp key_total row_key place_key row_held s.rest.rows s.keys k is.keys_rise own_places

  -- that is the row of the key's book
  pub under_key : (k : Key) → row_under (amended s) k ≡ row_under (value_of s (OfKey k)) k
  under_key k = row_found k ∙ by_place (key_place s k) refl
    where
      by_place : (q : Option KeyPlace) → key_place s k ≡ q
          → found_under key_cmp row_key place_key row_held q (row_under s.rest k) ≡ row_under (key_value_or q (book (OfKey k) s.rest)) k
      by_place None e = sym (key_row_beside s is k)
      by_place (Some p) e = sym (key_row_held s is k p e)

  key_found : (p : KeyPlace) → Contains s.keys p → key_place s p.key ≡ Some p
  key_found p among = item_at-from_contains key_cmp key_total place_key s.keys p is.keys_rise among

  -- the rows that places hold are there, and those without a place; and no others
  pub placed_row_there : (p : KeyPlace) (x : Row) → Contains s.keys p → row_held p ≡ Some x → Contains (amended s).rows x
  placed_row_there p x among e =
      let here : row_under (amended s) p.key ≡ Some x = row_found p.key
      ∙ ap (λ q. found_under key_cmp row_key place_key row_held q (row_under s.rest p.key)) (key_found p among) ∙ e in
      let found = item_at-found key_cmp key_total row_key (amended s).rows p.key x here in found.0

  pub unkeyed_row_there : (x : Row) → Contains s.rest.rows x → is_unkeyed s.keys x ≡ true → Contains (amended s).rows x
  unkeyed_row_there x among free =
      let none : key_place s x.key ≡ None = none_from (key_place s x.key) free in
      let here : row_under (amended s) x.key ≡ Some x = row_found x.key
      ∙ ap (λ q. found_under key_cmp row_key place_key row_held q (row_under s.rest x.key)) none
      ∙ item_at-from_contains key_cmp key_total row_key s.rest.rows x is.rest_in_order.rows_rise among in
      let found = item_at-found key_cmp key_total row_key (amended s).rows x.key x here in found.0

  pub row_from : (x : Row) → Contains (amended s).rows x
      → (Contains s.rest.rows x × (is_unkeyed s.keys x ≡ true)) ⊎ ((p : KeyPlace) × Contains s.keys p × (row_held p ≡ Some x))
  row_from x among =
      let here : row_under (amended s) x.key ≡ Some x =
      item_at-from_contains key_cmp key_total row_key (amended s).rows x rows_rise among in
      by_place (key_place s x.key) refl (sym (row_found x.key) ∙ here)
    where
      by_place : (q : Option KeyPlace) → key_place s x.key ≡ q
          → found_under key_cmp row_key place_key row_held q (row_under s.rest x.key) ≡ Some x
          → (Contains s.rest.rows x × (is_unkeyed s.keys x ≡ true)) ⊎ ((p : KeyPlace) × Contains s.keys p × (row_held p ≡ Some x))
      by_place None e h =
          let found = item_at-found key_cmp key_total row_key s.rest.rows x.key x h in
          inl (found.0, ap (λ o. not (is_some o)) e)
      by_place (Some p) e h =
          let found = item_at-found key_cmp key_total place_key s.keys x.key p e in
          inr (p, found.0, h)

  -- a row is there where the value of its key has it
  valued_row : (x : Row) → Contains (amended s).rows x → Contains (value_of s (OfKey x.key)).rows x
  valued_row x among =
      let here : row_under (value_of s (OfKey x.key)) x.key ≡ Some x =
      sym (under_key x.key) ∙ item_at-from_contains key_cmp key_total row_key (amended s).rows x rows_rise among in
      let found = item_at-found key_cmp key_total row_key (value_of s (OfKey x.key)).rows x.key x here in found.0

  row_of_value : (x : Row) → Contains (value_of s (OfKey x.key)).rows x → Contains (amended s).rows x
  row_of_value x among =
      let value = shelf_value s is (OfKey x.key) in
      let here : row_under (amended s) x.key ≡ Some x =
      under_key x.key ∙ item_at-from_contains key_cmp key_total row_key (value_of s (OfKey x.key)).rows x value.order.rows_rise among in
      let found = item_at-found key_cmp key_total row_key (amended s).rows x.key x here in found.0

  module _ (agreed : AreAllAgreed (value_of s)) where
    -- the rows of each book
    pub rows_of_book : (b : Book) → filter (has_row b) (amended s).rows ≡ (value_of s b).rows
    rows_of_book b =
        let value = shelf_value s is b in
        same_members key_cmp key_total row_key (filter (has_row b) (amended s).rows) (value_of s b).rows
        (IsAscending-filter key_cmp key_total row_key (has_row b) (amended s).rows rows_rise) value.order.rows_rise
        (λ x among. let parts = Contains-filter (has_row b) (amended s).rows x among in
        agreed.everywhere (OfKey x.key) b x (valued_row x parts.0) parts.1)
        (λ x among. Contains-filter_kept (has_row b) (amended s).rows x
        (row_of_value x (agreed.everywhere b (OfKey x.key) x among (ap is_eq (tied_itself key_total x.key))))
        (All-contains (λ y. has_row b y ≡ true) (value_of s b).rows x value.rows_own among))

    members_of_book : (f : List ℕ) → filter (of_family f) (amended s).members ≡ (value_of s (OfFamily f)).members
    members_of_book f =
        let value = shelf_value s is (OfFamily f) in
        same_members member_cmp member_total member_key (filter (of_family f) (amended s).members) (value_of s (OfFamily f)).members
        (IsAscending-filter member_cmp member_total member_key (of_family f) (amended s).members members_rise)
        value.order.members_rise
        (λ m among.
        let parts = Contains-filter (of_family f) (amended s).members m among in
        let same : m.key.family ≡ f = id_exact m.key.family f (Equal-from_is_eq _ parts.1) in
        subst (λ g. Contains (value_of s (OfFamily g)).members m) same (valued_member m parts.0))
        (λ m among.
        let own = All-contains (λ n. has_member (OfFamily f) n ≡ true) (value_of s (OfFamily f)).members m value.members_own among in
        let same : m.key.family ≡ f = id_exact m.key.family f (Equal-from_is_eq _ own) in
        Contains-filter_kept (of_family f) (amended s).members m
        (member_of_value m (subst (λ g. Contains (value_of s (OfFamily g)).members m) (sym same) among)) own)

    -- each book has its value
    pub values_amended : (b : Book) → book b (amended s) ≡ value_of s b
    values_amended (OfKey k) = ledger_path (book (OfKey k) (amended s)) (value_of s (OfKey k))
        (none (amended s).members ∙ sym (no_members (key_place s k))) (rows_of_book (OfKey k))
      where
        none : (ms : List Member) → filter (has_member (OfKey k)) ms ≡ []
        none [] = refl
        none (m ∷ ms) = none ms

        no_members : (q : Option KeyPlace) → (key_value_or q (book (OfKey k) s.rest)).members ≡ []
        no_members None = none s.rest.members
        no_members (Some p) = refl
    values_amended (OfFamily f) = ledger_path (book (OfFamily f) (amended s)) (value_of s (OfFamily f)) (members_of_book f)
        (rows_of_book (OfFamily f))

    -- ---- each row's member is listed

    listed_from : (k : MemberKey) → is_listed (value_of s (OfFamily k.family)) k ≡ true → is_listed (amended s) k ≡ true
    listed_from k h =
        let some = some_from (item_at member_cmp member_key (value_of s (OfFamily k.family)).members k) h in
        let m = some.0 in
        let found = item_at-found member_cmp member_total member_key (value_of s (OfFamily k.family)).members k m some.1 in
        let same : m.key ≡ k = member_exact m.key k found.1 in
        let here : Contains (amended s).members m = member_of_value m
        (subst (λ (j : MemberKey). Contains (value_of s (OfFamily j.family)).members m) (sym same) found.0) in
        let at = item_at-from_contains member_cmp member_total member_key (amended s).members m members_rise here in
        subst (λ j. is_listed (amended s) j ≡ true) same (ap is_some at)

    value_whole : (r : Row) → Contains (value_of s (OfFamily r.family)).rows r
        → is_listed (value_of s (OfFamily r.family)) (member_of_row r) ≡ true
    value_whole r among = by_place (family_place s r.family) refl among
      where
        by_book : (o : Option FamilyBook) → IfSome o (IsOwnBook s.period r.family) → Contains (ledger_of_family o).rows r
            → is_listed (ledger_of_family o) (member_of_row r) ≡ true
        by_book None own here = absurd (omega (arith, here.1))
        by_book (Some b) own here =
            each (λ x. contains_key member_cmp member_key b.members (member_of_row x)) b.rows r own.own.in_order.whole here

        by_place : (q : Option FamilyPlace) → family_place s r.family ≡ q
            → Contains (family_value_or q (book (OfFamily r.family) s.rest)).rows r
            → is_listed (family_value_or q (book (OfFamily r.family) s.rest)) (member_of_row r) ≡ true
        by_place None e here =
            let parts = Contains-filter (claimed_by r.family) s.rest.rows r here in
            let listed : is_listed s.rest (member_of_row r) ≡ true =
            each (λ x. is_listed s.rest (member_of_row x)) s.rest.rows r is.rest_in_order.whole parts.0 in
            let some = some_from (item_at member_cmp member_key s.rest.members (member_of_row r)) listed in
            let m = some.0 in
            let found = item_at-found member_cmp member_total member_key s.rest.members (member_of_row r) m some.1 in
            let same : m.key ≡ member_of_row r = member_exact m.key (member_of_row r) found.1 in
            let own : of_family r.family m ≡ true = ap (λ (j : MemberKey). is_eq (id_cmp j.family r.family)) same
            ∙ ap is_eq (tied_itself id_total r.family) in
            let rise = IsAscending-filter member_cmp member_total member_key (of_family r.family) s.rest.members
            is.rest_in_order.members_rise in
            let at = item_at-from_contains member_cmp member_total member_key (filter (of_family r.family) s.rest.members) m rise
            (Contains-filter_kept (of_family r.family) s.rest.members m found.0 own) in
            subst (λ j. is_listed (book (OfFamily r.family) s.rest) j ≡ true) same (ap is_some at)
        by_place (Some p) e here = by_book p.held (held_book_own s is r.family p e) here

    whole_amended : is_whole (amended s) ≡ true
    whole_amended = all_of (λ r. is_listed (amended s) (member_of_row r)) (amended s).rows (λ r among.
        listed_from (member_of_row r) (value_whole r
        (agreed.everywhere (OfKey r.key) (OfFamily r.family) r (valued_row r among) (ap is_eq (tied_itself id_total r.family)))))

    pub ledger_amended : IsLedger (amended s)
    ledger_amended = record { members_rise = members_rise; rows_rise = rows_rise; whole = whole_amended }

-- ---- a ledger without places

module _ (period : Span) (L : Ledger) (is : IsLedger L) where
  abbrev alone : ShelfParts
  alone = record { period = period; rest = L; keys = []; families = [] }

  alone_values : (b : Book) → value_of alone b ≡ book b L
  alone_values (OfKey k) = refl
  alone_values (OfFamily f) = refl

  row_in : (b : Book) (r : Row) → Contains (value_of alone b).rows r → Contains L.rows r × (has_row b r ≡ true)
  row_in b r among = Contains-filter (has_row b) L.rows r (subst (λ (M : Ledger). Contains M.rows r) (alone_values b) among)

  pub alone_is : IsAmended alone
  alone_is = record {
    shelf = record {
      rest_in_order = is;
      keys_rise = tt;
      families_rise = tt;
      rows_own = All-nil HoldsOwnRow;
      books_own = All-nil (HoldsOwnBook period);
    };
    agreed = record {
      one = λ b c r t here there tied.
          let in_r = row_in b r here in
          let in_t = row_in c t there in
          same_item key_cmp key_total row_key L.rows r t is.rows_rise in_r.0 in_t.0 (Equal-from_is_eq _ tied);
      everywhere = λ b c r here has.
          let in_r = row_in b r here in
          subst (λ (M : Ledger). Contains M.rows r) (sym (alone_values c)) (Contains-filter_kept (has_row c) L.rows r in_r.0 has);
    };
  }

  -- its books together are itself
  pub amended_alone : amended alone ≡ L
  amended_alone = ledger_path (amended alone) L
      (put_all-nil member_cmp member_total member_key (filter (is_unplaced []) L.members)
      (IsAscending-filter member_cmp member_total member_key (is_unplaced []) L.members is.members_rise)
      ∙ filter_all (is_unplaced []) L.members (λ i d lt. refl))
      refl
