-- The shelf of books: what each is worth there, which have a place, and that all are in.
use Rattle.std.proofs.Common.{◌≡◌, ℕ, List, [], ◌∷◌, map, false, Option, Some, None, refl, sym, ap, ◌∙◌, inl, inr}
use Rattle.std.proofs.Common.{Result, Ok, Err}
use Rattle.std.specs.Prelude.{IfOk, IfSome}
use Rattle.std.specs.List.{All, Contains, filter}
use Rattle.std.specs.Option.{is_some, option_map, option_to_list}
use Rattle.std.specs.Ordering.{is_eq}
use Rattle.std.proofs.lemmas.Bool.{cases_Bool}
use Rattle.std.proofs.lemmas.List.Elements.{All-cons, All-head, All-nil, All-tail, All-weaker}
use Rattle.rx_fields.specs.Order.{id_cmp, key_cmp}
use Rattle.rx_fields.specs.declared.key.Key.{Key}
use Rattle.rx_sorted.specs.Ascending.{IsAscending, item_at, itself}
use Rattle.rx_sorted.proofs.Joined.{IsAscending-joined}
use Rattle.rx_sorted.proofs.Keys.{Equal-from_is_eq, item_at-below}
use Rattle.rx_sorted.proofs.LookUps.{item_at-found, item_at-map, item_at-tied}
use Rattle.rx_ledger.specs.declared.member.Member.{Member}
use Rattle.rx_ledger.specs.declared.row.Row.{Row}
use Rattle.rx_ledger.specs.Ledger.{IsLedger, Ledger, row_under}
use Rattle.rx_ledger.specs.Rows.{row_key}
use Rattle.rx_ledger.proofs.Orders.{id_exact, id_total, key_exact, key_total}
use Rattle.rx_books_family.specs.Books.{Book, OfFamily, OfKey, book, has_member, has_row}
use Rattle.rx_books_family.specs.FamilyBook.{FamilyBook, IsOwn}
use Rattle.rx_books_parcel.specs.Footprints.{FootprintParts, IsFootprint}
use Rattle.rx_books_family.proofs.BookValues.{ledger_path}
use Rattle.rx_books_store.specs.LedgerBooks.{LedgerBooks}
use Rattle.rx_books_family.specs.declared.place.FamilyPlace.{FamilyPlace}
use Rattle.rx_books_family.specs.declared.place.KeyPlace.{KeyPlace}
use Rattle.rx_books_family.specs.Shelves.{HoldsOwnBook, HoldsOwnRow, IsShelf, ShelfParts, family_place, family_value_or}
use Rattle.rx_books_family.specs.Shelves.{has_slot, is_family_out, is_key_out, is_out}
use Rattle.rx_books_family.specs.Shelves.{key_place, key_value_or, place_family, place_key, value_of}
use Rattle.rx_books_shelf.specs.Closed.{HasSlot}
use Rattle.rx_books_shelf.specs.Opened.{all_families, all_keys, opened_book, filled_place, full_key_place, is_named_by, shelf_of}
use Rattle.rx_books_shelf.proofs.Ascended.{joined_has}
use Rattle.rx_sorted.proofs.AllSlots.{map_map}
use Rattle.rx_books_shelf.proofs.ShelfKept.{ascending_changed}

-- the row under a key, as a list
row_alone : (rows : List Row) (k : Key) → IsAscending key_cmp row_key rows
    → filter (has_row (OfKey k)) rows ≡ option_to_list (item_at key_cmp row_key rows k)
row_alone [] k rise = refl
row_alone (r ∷ rows) k rise = elim (cases_Bool (is_eq (key_cmp r.key k))) [
  | inl t ↦
      let none : item_at key_cmp row_key rows k ≡ None =
      sym (item_at-tied key_cmp key_total row_key rows r.key k (Equal-from_is_eq _ t))
      ∙ item_at-below key_cmp key_total row_key r.key rows rise.0 in
      let rest : filter (has_row (OfKey k)) rows ≡ [] = row_alone rows k rise.1 ∙ ap option_to_list none in
      rw t (ap (λ rs. r ∷ rs) rest)
  | inr n ↦ rw n (row_alone rows k rise.1)
]

no_members : (k : Key) (L : Ledger) → filter (has_member (OfKey k)) L.members ≡ []
no_members k L = none L.members
  where
    none : (ms : List Member) → filter (has_member (OfKey k)) ms ≡ []
    none [] = refl
    none (m ∷ ms) = none ms

module _ (b : LedgerBooks) (footprints : List FootprintParts) where
  abbrev key_found : Key → Option Key
  key_found k = item_at key_cmp itself (all_keys footprints) k

  abbrev family_found : List ℕ → Option (List ℕ)
  family_found f = item_at id_cmp itself (all_families footprints) f

  key_at : (k : Key) → key_place (shelf_of b footprints) k ≡ option_map (full_key_place b) (key_found k)
  key_at k = item_at-map key_cmp key_total itself place_key (full_key_place b) (λ j. refl) (all_keys footprints) k

  family_at : (f : List ℕ) → family_place (shelf_of b footprints) f ≡ option_map (λ g. filled_place (opened_book b g)) (family_found f)
  family_at f = item_at-map id_cmp id_total itself place_family (λ g. filled_place (opened_book b g)) (λ g. refl) (all_families
      footprints) f

  -- ---- what they are worth

  module _ (is : IsLedger b.ledger) where
    key_worth : (k : Key) (o : Option Key) → key_found k ≡ o
        → key_value_or (option_map (full_key_place b) o) (book (OfKey k) b.ledger) ≡ book (OfKey k) b.ledger
    key_worth k None e = refl
    key_worth k (Some j) e =
        let found = item_at-found key_cmp key_total itself (all_keys footprints) k j e in
        let same : j ≡ k = key_exact j k found.1 in
        ledger_path (record { members = []; rows = option_to_list (row_under b.ledger j) }) (book (OfKey k) b.ledger)
        (sym (no_members k b.ledger))
        (ap (λ i. option_to_list (row_under b.ledger i)) same ∙ sym (row_alone b.ledger.rows k is.rows_rise))

    family_worth : (f : List ℕ) (o : Option (List ℕ)) → family_found f ≡ o
        → family_value_or (option_map (λ g. filled_place (opened_book b g)) o) (book (OfFamily f) b.ledger) ≡ book (OfFamily f) b.ledger
    family_worth f None e = refl
    family_worth f (Some g) e =
        let found = item_at-found id_cmp id_total itself (all_families footprints) f g e in
        ap (λ h. book (OfFamily h) b.ledger) (id_exact g f found.1)

    pub values_opened : (c : Book) → value_of (shelf_of b footprints) c ≡ book c b.ledger
    values_opened (OfKey k) = ap (λ o. key_value_or o (book (OfKey k) b.ledger)) (key_at k) ∙ key_worth k (key_found k) refl
    values_opened (OfFamily f) = ap (λ o. family_value_or o (book (OfFamily f) b.ledger)) (family_at f)
        ∙ family_worth f (family_found f) refl

  -- ---- which have a place

  some_map : {A B : Type 0} (f : A → B) (o : Option A) → is_some (option_map f o) ≡ is_some o
  some_map f None = refl
  some_map f (Some x) = refl

  pub slots_opened : All IsFootprint footprints → (c : Book) → has_slot (shelf_of b footprints) c ≡ is_named_by footprints c
  slots_opened all (OfKey k) = ap is_some (key_at k) ∙ some_map (full_key_place b) (key_found k)
      ∙ joined_has key_cmp key_total key_exact (λ (F : FootprintParts). F.keys) footprints k
      (All-weaker IsFootprint (λ F. IsAscending key_cmp itself F.keys) (λ F is. is.keys_rise) footprints all)
  slots_opened all (OfFamily f) = ap is_some (family_at f) ∙ some_map (λ g. filled_place (opened_book b g)) (family_found f)
      ∙ joined_has id_cmp id_total id_exact (λ (F : FootprintParts). F.families) footprints f
      (All-weaker IsFootprint (λ F. IsAscending id_cmp itself F.families) (λ F is. is.families_rise) footprints all)

  pub none_out : (c : Book) → is_out (shelf_of b footprints) c ≡ false
  none_out (OfKey k) = ap is_key_out (key_at k) ∙ by_key (key_found k)
    where
      by_key : (o : Option Key) → is_key_out (option_map (full_key_place b) o) ≡ false
      by_key None = refl
      by_key (Some j) = refl
  none_out (OfFamily f) = ap is_family_out (family_at f) ∙ by_family (family_found f)
    where
      by_family : (o : Option (List ℕ)) → is_family_out (option_map (λ g. filled_place (opened_book b g)) o) ≡ false
      by_family None = refl
      by_family (Some g) = refl

  -- ---- what is kept

  rows_own : (ks : List Key) → All HoldsOwnRow (map (full_key_place b) ks)
  rows_own [] = All-nil HoldsOwnRow
  rows_own (k ∷ ks) = All-cons HoldsOwnRow (full_key_place b k) (map (full_key_place b) ks) (by_row (row_under b.ledger k) refl)
      (rows_own ks)
    where
      by_row : (o : Option Row) → row_under b.ledger k ≡ o → IfSome o (λ (r : Row). r.key ≡ k)
      by_row None e = tt
      by_row (Some r) e = let found = item_at-found key_cmp key_total row_key b.ledger.rows k r e in key_exact r.key k found.1

  books_own : (fs : List (List ℕ)) → All IsOwn (map (opened_book b) fs)
      → All (HoldsOwnBook b.period) (map (λ f. filled_place (opened_book b f)) fs)
  books_own [] own = All-nil (HoldsOwnBook b.period)
  books_own (f ∷ fs) own =
      All-cons (HoldsOwnBook b.period) (filled_place (opened_book b f)) (map (λ g. filled_place (opened_book b g)) fs)
      (record { name = refl; period_same = refl; own = All-head IsOwn (opened_book b f) (map (opened_book b) fs) own })
      (books_own fs (All-tail IsOwn (opened_book b f) (map (opened_book b) fs) own))

  pub shelf_opened : IsLedger b.ledger → All IsOwn (map (opened_book b) (all_families footprints)) → IsShelf (shelf_of b footprints)
  shelf_opened is own = record {
    rest_in_order = is;
    keys_rise = ascending_changed key_cmp itself place_key (full_key_place b) (λ k. refl) (all_keys footprints)
        (IsAscending-joined key_cmp key_total itself (map (λ (F : FootprintParts). F.keys) footprints));
    families_rise = ascending_changed id_cmp itself place_family (λ g. filled_place (opened_book b g)) (λ g. refl) (all_families
        footprints)
        (IsAscending-joined id_cmp id_total itself (map (λ (F : FootprintParts). F.families) footprints));
    rows_own = rows_own (all_keys footprints);
    books_own = books_own (all_families footprints) own;
  }

-- ---- the parts of the shelf

pub opened_parts : (b c : LedgerBooks) (footprints : List FootprintParts) (ks : List Key) (fs : List (List ℕ)) (books : List FamilyBook)
    (places : List KeyPlace) (others : List FamilyPlace) → c ≡ b → ks ≡ all_keys footprints → fs ≡ all_families footprints
    → places ≡ map (full_key_place c) ks → books ≡ map (opened_book c) fs → others ≡ map filled_place books
    → record { period = c.period; rest = c.ledger; keys = places; families = others } ≡ shelf_of b footprints
opened_parts b c footprints ks fs books places others same ek ef pk bf pf =
    let k : places ≡ map (full_key_place c) (all_keys footprints) = pk ∙ ap (map (full_key_place c)) ek in
    let f : others ≡ map (λ g. filled_place (opened_book c g)) (all_families footprints) =
    pf ∙ ap (map filled_place) (bf ∙ ap (map (opened_book c)) ef) ∙ map_map filled_place (opened_book c) (all_families footprints) in
    let whole : record { period = c.period; rest = c.ledger; keys = places; families = others } ≡ shelf_of c footprints =
    λ i. record { period = c.period; rest = c.ledger; keys = k i; families = f i } in
    whole ∙ ap (λ d. shelf_of d footprints) same

-- what each book is worth on the shelf of books that were opened
pub opened_from : {E : Type 0} (b c : LedgerBooks) (footprints : List FootprintParts) (r : Result ShelfParts E) → c ≡ b
    → IfOk r (λ s. s ≡ shelf_of c footprints) → IfOk r (λ s. IsLedger c.ledger)
    → IfOk r (λ s. (x : Book) → value_of s x ≡ book x b.ledger)
opened_from b c footprints (Ok s) same is within = λ x.
    ap (λ t. value_of t x) is ∙ values_opened c footprints within x ∙ ap (λ d. book x d.ledger) same
opened_from b c footprints (Err e) same is within = tt

pub slots_there : (slots : List Key) (b : LedgerBooks) (ks : List Key) → All (Contains slots) ks
    → All (HasSlot slots) (map (full_key_place b) ks)
slots_there slots b [] all = All-nil (HasSlot slots)
slots_there slots b (k ∷ ks) all =
    All-cons (HasSlot slots) (full_key_place b k) (map (full_key_place b) ks) (All-head (Contains slots) k ks all)
    (slots_there slots b ks (All-tail (Contains slots) k ks all))
