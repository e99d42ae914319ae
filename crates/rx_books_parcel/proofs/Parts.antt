-- The part of a ledger that stands in the books of a footprint: it has these books as the whole has them.
use Rattle.std.proofs.Common.{◌≡◌, ℕ, List, [], ◌∷◌, ◌++◌, map, Bool, true, get_or, refl, ap, ◌∙◌, inl, inr}
use Rattle.std.specs.List.{All, filter, list_any}
use Rattle.std.specs.Cmp.{IsTotalOrder}
use Rattle.std.specs.Ordering.{is_eq}
use Rattle.std.specs.declared.cmp.Ordering.{Ordering}
use Rattle.std.proofs.lemmas.Bool.{cases_Bool}
use Rattle.std.proofs.lemmas.Cmp.{tied_itself}
use Rattle.std.proofs.lemmas.List.Elements.{All-append, All-cons, All-head, All-map, All-nil, All-tail, All-weaker}
use Rattle.rx_fields.specs.Order.{id_cmp, key_cmp}
use Rattle.rx_fields.specs.declared.key.Key.{Key}
use Rattle.rx_sorted.specs.Ascending.{contains_key, itself}
use Rattle.rx_sorted.specs.Joined.{joined}
use Rattle.rx_sorted.proofs.Filters.{filter_within, find_filter}
use Rattle.rx_sorted.proofs.Joined.{joined-filters}
use Rattle.rx_sorted.proofs.Keys.{Equal-from_is_eq}
use Rattle.rx_ledger.specs.declared.row.Row.{Row}
use Rattle.rx_ledger.specs.Ledger.{Ledger, members_of, row_under, rows_of}
use Rattle.rx_ledger.specs.Members.{member_cmp, member_key}
use Rattle.rx_ledger.specs.Rows.{row_key}
use Rattle.rx_ledger.proofs.Orders.{id_exact, id_total, key_exact, key_total, member_total}
use Rattle.rx_books_family.specs.Books.{Book, IsInOrder, OfFamily, OfKey, book, has_member, has_row}
use Rattle.rx_books_family.proofs.BookValues.{ledger_path}
use Rattle.rx_books_parcel.specs.Footprints.{FootprintParts, books_in, cut, names, sub}

-- some book of the footprint has it
abbrev pub keeps : {A : Type 0} → (Book → A → Bool) → FootprintParts → A → Bool
keeps has F x = list_any (λ b. has b x) (books_in F)

-- the members and rows that some book of the footprint has
abbrev pub part : FootprintParts → Ledger → Ledger
part F L =
    record { members = filter (keeps has_member F) L.members; rows = filter (keeps has_row F) L.rows }

-- what holds of anything holds of each element
pub of_any : {A : Type 0} (P : A → Type 0) (xs : List A) → ((x : A) → P x) → All P xs
of_any P xs h i d lt = h (get_or xs i d)

-- ---- a named book is one of the books

module _ {A : Type 0} (has : Book → A → Bool) (x : A) where
  any_behind : (bs cs : List Book) → list_any (λ b. has b x) cs ≡ true → list_any (λ b. has b x) (bs ++ cs) ≡ true
  any_behind [] cs h = h
  any_behind (b ∷ bs) cs h = elim (cases_Bool (has b x)) [ inl t ↦ rw t | inr f ↦ rw f (any_behind bs cs h) ]

  any_key : (ks : List Key) (cs : List Book) (k : Key) → contains_key key_cmp itself ks k ≡ true → has (OfKey k) x ≡ true
      → list_any (λ b. has b x) (map OfKey ks ++ cs) ≡ true
  any_key [] cs k among h = cc
  any_key (j ∷ ks) cs k among h = elim (cases_Bool (is_eq (key_cmp j k))) [
    | inl t ↦
        let same : j ≡ k = key_exact j k (Equal-from_is_eq _ t) in
        let here : has (OfKey j) x ≡ true = rw same h in
        rw here
    | inr f ↦
        let rest : list_any (λ b. has b x) (map OfKey ks ++ cs) ≡ true = any_key ks cs k (rw f at among) h in
        elim (cases_Bool (has (OfKey j) x)) [ inl t ↦ rw t | inr g ↦ rw (g, rest) ]
  ]

  any_family : (fs : List (List ℕ)) (f : List ℕ) → contains_key id_cmp itself fs f ≡ true → has (OfFamily f) x ≡ true
      → list_any (λ b. has b x) (map OfFamily fs) ≡ true
  any_family [] f among h = cc
  any_family (g ∷ fs) f among h = elim (cases_Bool (is_eq (id_cmp g f))) [
    | inl t ↦
        let same : g ≡ f = id_exact g f (Equal-from_is_eq _ t) in
        let here : has (OfFamily g) x ≡ true = rw same h in
        rw here
    | inr n ↦
        let rest : list_any (λ b. has b x) (map OfFamily fs) ≡ true = any_family fs f (rw n at among) h in
        elim (cases_Bool (has (OfFamily g) x)) [ inl t ↦ rw t | inr m ↦ rw (m, rest) ]
  ]

  -- what a named book has is kept
  pub named_keeps : (F : FootprintParts) (b : Book) → names F b ≡ true → has b x ≡ true → keeps has F x ≡ true
  named_keeps F (OfKey k) n h = any_key F.keys (map OfFamily F.families) k n h
  named_keeps F (OfFamily f) n h =
      any_behind (map OfKey F.keys) (map OfFamily F.families) (any_family F.families f n h)

-- a row of a named key or of a named family is kept
pub key_kept : (F : FootprintParts) (r : Row) → names F (OfKey r.key) ≡ true → keeps has_row F r ≡ true
key_kept F r n = named_keeps has_row r F (OfKey r.key) n (ap is_eq (tied_itself key_total r.key))

-- ---- the part

-- a named book is the same in the part
pub book_part : (F : FootprintParts) (b : Book) (L : Ledger) → names F b ≡ true → book b (part F L) ≡ book b L
book_part F b L n = ledger_path (book b (part F L)) (book b L)
    (filter_within (has_member b) (keeps has_member F) L.members
    (of_any (λ m. has_member b m ≡ true → keeps has_member F m ≡ true) L.members (λ m h. named_keeps has_member m F b n h)))
    (filter_within (has_row b) (keeps has_row F) L.rows
    (of_any (λ r. has_row b r ≡ true → keeps has_row F r ≡ true) L.rows (λ r h. named_keeps has_row r F b n h)))

-- so are a named family's members and rows, and the row under a named key
pub members_part : (F : FootprintParts) (family : List ℕ) (L : Ledger) → names F (OfFamily family) ≡ true
    → members_of (part F L) family ≡ members_of L family
members_part F family L n = ap (λ (M : Ledger). M.members) (book_part F (OfFamily family) L n)

pub rows_part : (F : FootprintParts) (family : List ℕ) (L : Ledger) → names F (OfFamily family) ≡ true
    → rows_of (part F L) family ≡ rows_of L family
rows_part F family L n = ap (λ (M : Ledger). M.rows) (book_part F (OfFamily family) L n)

-- what is looked for in a filter that keeps it
pub row_part : (F : FootprintParts) (key : Key) (L : Ledger) → names F (OfKey key) ≡ true
    → row_under (part F L) key ≡ row_under L key
row_part F key L n = find_filter (has_row (OfKey key)) (keeps has_row F) L.rows
    (λ r h. named_keeps has_row r F (OfKey key) n h)

-- the books of a ledger that is in order, put together, are its part
pub sub_part : (F : FootprintParts) (L : Ledger) → IsInOrder L → sub F (λ b. book b L) ≡ part F L
sub_part F L order = ledger_path (sub F (λ b. book b L)) (part F L)
    (joined-filters member_cmp member_total member_key has_member L.members order.members_rise (books_in F))
    (joined-filters key_cmp key_total row_key has_row L.rows order.rows_rise (books_in F))

-- ---- values that are the same at the named books

-- each item of a list of keys is one of its keys
own_keys : {K : Type 0} (cmp : K → K → Ordering) → IsTotalOrder cmp → (ks : List K)
    → All (λ k. contains_key cmp itself ks k ≡ true) ks
own_keys {K} cmp order [] = All-nil (λ k. contains_key cmp itself [] k ≡ true)
own_keys {K} cmp order (j ∷ ks) =
    let P : K → Type 0 = λ k. contains_key cmp itself ks k ≡ true in
    let Q : K → Type 0 = λ k. contains_key cmp itself (j ∷ ks) k ≡ true in
    All-cons Q j ks (rw (tied_itself order j))
    (All-weaker P Q (λ k h. elim (cases_Bool (is_eq (cmp j k))) [ inl t ↦ rw t | inr f ↦ rw f h ]) ks
    (own_keys cmp order ks))

-- the footprint names each of its books
pub books_named : (F : FootprintParts) → All (λ b. names F b ≡ true) (books_in F)
books_named F =
    let P : Book → Type 0 = λ b. names F b ≡ true in
    All-append P (map OfKey F.keys) (map OfFamily F.families)
    (All-map P OfKey F.keys (own_keys key_cmp key_total F.keys))
    (All-map P OfFamily F.families (own_keys id_cmp id_total F.families))

map_same : {A B : Type 0} (f g : A → B) (xs : List A) → All (λ x. f x ≡ g x) xs → map f xs ≡ map g xs
map_same f g [] h = refl
map_same {A} f g (x ∷ xs) h =
    let P : A → Type 0 = λ y. f y ≡ g y in
    let first : f x ≡ g x = All-head P x xs h in
    let rest : map f xs ≡ map g xs = map_same f g xs (All-tail P x xs h) in
    cc

-- the ledger of some books only depends on the values of these books only
pub sub_same : (F : FootprintParts) (v w : Book → Ledger) → ((b : Book) → names F b ≡ true → v b ≡ w b)
    → sub F v ≡ sub F w
sub_same F v w h =
    let same : All (λ b. v b ≡ w b) (books_in F) =
    All-weaker (λ b. names F b ≡ true) (λ b. v b ≡ w b) h (books_in F) (books_named F) in
    ledger_path (sub F v) (sub F w)
    (ap (joined member_cmp member_key) (map_same (λ b. (v b).members) (λ b. (w b).members) (books_in F)
    (All-weaker (λ b. v b ≡ w b) (λ b. (v b).members ≡ (w b).members) (λ b e. ap (λ (M : Ledger). M.members) e) (books_in F) same)))
    (ap (joined key_cmp row_key) (map_same (λ b. (v b).rows) (λ b. (w b).rows) (books_in F)
    (All-weaker (λ b. v b ≡ w b) (λ b. (v b).rows ≡ (w b).rows) (λ b e. ap (λ (M : Ledger). M.rows) e) (books_in F) same)))

pub cut_named : (F : FootprintParts) (L : Ledger) (b : Book) → names F b ≡ true → cut F L b ≡ book b L
cut_named F L b n = rw n

-- what is cut out of a ledger that is in order, put together, is its part
pub cut_part : (F : FootprintParts) (L : Ledger) → IsInOrder L → sub F (cut F L) ≡ part F L
cut_part F L order = sub_same F (cut F L) (λ b. book b L) (cut_named F L) ∙ sub_part F L order
