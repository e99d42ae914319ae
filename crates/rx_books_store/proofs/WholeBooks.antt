-- What is read off books as a whole: each figure is that of the family's value, and two are one where each has what the
-- other has.
use Rattle.std.proofs.Common.{◌≡◌, ℕ, zero, suc, ◌+◌, ◌<◌, ◌≤◌, List, [], ◌∷◌, drop, get_or}
use Rattle.std.proofs.Common.{length, Bool, true, false, not, Option, Some, None}
use Rattle.std.proofs.Common.{Bor, refl, sym, ap, ◌∙◌, inl, inr, arith, add-one}
use Rattle.std.specs.Prelude.{◌↔◌, IfSome, IsTrue, if◌then◌else◌}
use Rattle.std.specs.List.{Contains, filter, list_any}
use Rattle.std.specs.Option.{is_some, option_and_then, option_copied}
use Rattle.std.specs.Ordering.{is_eq}
use Rattle.std.proofs.lemmas.Bool.{and_from, and_parts, cases_Bool}
use Rattle.std.proofs.lemmas.Cmp.{tied_itself}
use Rattle.std.proofs.Math.Seq.{drop-cons}
use Rattle.rx_fields.specs.Numbered.{Span}
use Rattle.rx_fields.specs.Order.{id_cmp, key_cmp}
use Rattle.rx_sorted.specs.Ascending.{has_key, item_at}
use Rattle.rx_sorted.proofs.Edits.{same_members}
use Rattle.rx_sorted.proofs.Keys.{Equal-from_is_eq}
use Rattle.rx_sorted.proofs.LookUps.{item_at-found, item_at-from_contains}
use Rattle.rx_ledger.specs.declared.member.Member.{Member}
use Rattle.rx_ledger.specs.declared.member.MemberKey.{MemberKey}
use Rattle.rx_ledger.specs.declared.row.Row.{Row}
use Rattle.rx_ledger.specs.Ledger.{IsLedger, Ledger, is_listed, members_of, row_under}
use Rattle.rx_ledger.specs.Members.{member_cmp, member_key, of_family}
use Rattle.rx_ledger.specs.Rows.{row_key}
use Rattle.rx_ledger.specs.Sums.{deductible_in, family_deductible_in, out_of_pocket_in}
use Rattle.rx_ledger.proofs.Decided.{member_decides, period_decides, row_decides}
use Rattle.rx_ledger.proofs.Orders.{id_total, key_total, member_exact, member_total}
use Rattle.rx_books_family.specs.Books.{OfFamily, book, is_found}
use Rattle.rx_books_family.specs.FamilyBook.{FamilyBook, deductible_at, ledger_of_family}
use Rattle.rx_sorted.proofs.Filters.{find_filter}
use Rattle.rx_books_family.specs.declared.place.FamilyPlace.{FamilyPlace}
use Rattle.rx_books_family.specs.Amended.{IsAmended, amended, is_among, is_member_found}
use Rattle.rx_books_family.specs.Shelves.{IsOwnBook, ShelfParts, family_place, family_value, family_value_or}
use Rattle.rx_books_family.proofs.Amended.{all_of, among_then, each, values_amended}
use Rattle.rx_books_family.proofs.Valued.{held_book_own}
use Rattle.rx_books_store.specs.LedgerBooks.{LedgerBooks, deductible_of_family, deductible_of_member, out_of_pocket_of_family}
use Rattle.rx_books_store.specs.WholeBooks.{are_members_in, are_one, are_rows_in, deductible_held, family_deductible_held, has_row, if_any}
use Rattle.rx_books_store.specs.WholeBooks.{is_within, out_of_pocket_held}

-- ---- lists, item by item

pub drop_next : {A : Type 0} (i : ℕ) (x : A) (xs : List A) → i < length xs → x ≡ get_or xs i x → drop i xs ≡ x ∷ drop (i + 1) xs
drop_next i x xs lt is = rw add-one (drop-cons xs i x lt ∙ ap (λ y. y ∷ drop (suc i) xs) (sym is))

pub none_left : {A : Type 0} (i : ℕ) (xs : List A) → length xs ≤ i → drop i xs ≡ []
none_left i [] h = drop_nothing i
  where
    drop_nothing : {A : Type 0} (j : ℕ) → drop {A = A} j [] ≡ []
    drop_nothing zero = refl
    drop_nothing (suc j) = refl
none_left zero (x ∷ xs) h = absurd (omega (arith, h))
none_left (suc i) (x ∷ xs) h = none_left i xs (omega (arith, h))

pub filter_kept : {A : Type 0} (p : A → Bool) (x : A) (xs : List A) → p x ≡ true → filter p (x ∷ xs) ≡ x ∷ filter p xs
filter_kept p x xs h = rw h refl

pub filter_left : {A : Type 0} (p : A → Bool) (x : A) (xs : List A) → p x ≡ false → filter p (x ∷ xs) ≡ filter p xs
filter_left p x xs h = rw h refl

-- whether nothing was found, said of what was borrowed
pub none_told : {A : Type 0} (o : Option (Bor A)) (b : Bool) → is_some o ≡ not b → not (is_some (option_copied o)) ≡ b
none_told None true h = refl
none_told None false h = absurd (cc h)
none_told (Some x) true h = absurd (cc h)
none_told (Some x) false h = refl

-- ---- a figure is read off the value of its family

figure_any : (f : List ℕ) (ms : List Member) (n : ℕ)
    → (if list_any (of_family f) ms then Some n else None) ≡ if_any (filter (of_family f) ms) n
figure_any f [] n = refl
figure_any f (m ∷ ms) n = elim (cases_Bool (of_family f m)) [ inl t ↦ rw t refl | inr u ↦ rw u (figure_any f ms n) ]

listed_in_book : (L : Ledger) (k : MemberKey) → item_at member_cmp member_key (members_of L k.family) k
    ≡ item_at member_cmp member_key L.members k
listed_in_book L k = find_filter (has_key member_cmp member_key k) (of_family k.family) L.members (λ m h.
    let same : m.key ≡ k = member_exact m.key k (Equal-from_is_eq _ h) in
    ap (λ (j : MemberKey). is_eq (id_cmp j.family k.family)) same ∙ ap is_eq (tied_itself id_total k.family))

-- the deductible of a member over a family's value
abbrev deductible_over : Span → List ℕ → List ℕ → Ledger → Option ℕ
deductible_over p f q v = if is_listed v (record { family = f; person = q }) then Some (deductible_in p v.rows q) else None

deductible_by_book : (b : LedgerBooks) (f q : List ℕ)
    → deductible_of_member b f q ≡ deductible_over b.period f q (book (OfFamily f) b.ledger)
deductible_by_book b f q =
    ap (λ o. if is_some o then Some (deductible_in b.period (book (OfFamily f) b.ledger).rows q) else None)
    (sym (listed_in_book b.ledger (record { family = f; person = q })))

pocket_by_book : (b : LedgerBooks) (f : List ℕ)
    → out_of_pocket_of_family b f
    ≡ if_any (book (OfFamily f) b.ledger).members (out_of_pocket_in b.period (book (OfFamily f) b.ledger).rows)
pocket_by_book b f = figure_any f b.ledger.members (out_of_pocket_in b.period (book (OfFamily f) b.ledger).rows)

family_by_book : (b : LedgerBooks) (f : List ℕ)
    → deductible_of_family b f
    ≡ if_any (book (OfFamily f) b.ledger).members (family_deductible_in b.period (book (OfFamily f) b.ledger).rows)
family_by_book b f = figure_any f b.ledger.members (family_deductible_in b.period (book (OfFamily f) b.ledger).rows)

module _ (s : ShelfParts) (is : IsAmended s) where
  abbrev all_books : LedgerBooks
  all_books = record { period = s.period; ledger = amended s }

  abbrev opened : LedgerBooks
  opened = record { period = s.period; ledger = s.rest }

  module _ (f : List ℕ) where
    -- a family without a place has the book that it has in the ledger
    beside_value : family_place s f ≡ None → book (OfFamily f) (amended s) ≡ book (OfFamily f) s.rest
    beside_value e = values_amended s is.shelf is.agreed (OfFamily f) ∙ ap (λ q. family_value_or q (book (OfFamily f) s.rest)) e

    place_value : (p : FamilyPlace) → family_place s f ≡ Some p → book (OfFamily f) (amended s) ≡ family_value p
    place_value p e = values_amended s is.shelf is.agreed (OfFamily f) ∙ ap (λ q. family_value_or q (book (OfFamily f) s.rest)) e

    pub deductible_beside : (q : List ℕ) → family_place s f ≡ None → deductible_of_member opened f q ≡ deductible_of_member all_books f q
    deductible_beside q e = deductible_by_book opened f q ∙ ap (deductible_over s.period f q) (sym (beside_value e))
        ∙ sym (deductible_by_book all_books f q)

    pub deductible_placed : (q : List ℕ) (p : FamilyPlace) → family_place s f ≡ Some p
        → deductible_held q p ≡ deductible_of_member all_books f q
    deductible_placed q p e = by_book p.held (held_book_own s is.shelf f p e)
        ∙ ap (deductible_over s.period f q) (sym (place_value p e)) ∙ sym (deductible_by_book all_books f q)
      where
        by_book : (o : Option FamilyBook) → IfSome o (IsOwnBook s.period f)
            → option_and_then (λ b. deductible_at b q) o ≡ deductible_over s.period f q (ledger_of_family o)
        by_book None own = refl
        by_book (Some b) own =
            ap (λ g. if is_listed (ledger_of_family (Some b)) (record { family = g; person = q })
            then Some (deductible_in b.period b.rows q) else None) own.name
            ∙ ap (λ t. if is_listed (ledger_of_family (Some b)) (record { family = f; person = q }) then Some (deductible_in t b.rows q)
            else None) own.period_same

    pub pocket_beside : family_place s f ≡ None → out_of_pocket_of_family opened f ≡ out_of_pocket_of_family all_books f
    pocket_beside e = pocket_by_book opened f ∙ ap (λ (v : Ledger). if_any v.members (out_of_pocket_in s.period v.rows))
        (sym (beside_value e))
        ∙ sym (pocket_by_book all_books f)

    pub pocket_placed : (p : FamilyPlace) → family_place s f ≡ Some p → out_of_pocket_held p ≡ out_of_pocket_of_family all_books f
    pocket_placed p e = by_book p.held (held_book_own s is.shelf f p e)
        ∙ ap (λ (v : Ledger). if_any v.members (out_of_pocket_in s.period v.rows)) (sym (place_value p e))
        ∙ sym (pocket_by_book all_books f)
      where
        by_book : (o : Option FamilyBook) → IfSome o (IsOwnBook s.period f)
            → option_and_then (λ b. if_any b.members (out_of_pocket_in b.period b.rows)) o
            ≡ if_any (ledger_of_family o).members (out_of_pocket_in s.period (ledger_of_family o).rows)
        by_book None own = refl
        by_book (Some b) own = ap (λ t. if_any b.members (out_of_pocket_in t b.rows)) own.period_same

    pub family_beside : family_place s f ≡ None → deductible_of_family opened f ≡ deductible_of_family all_books f
    family_beside e = family_by_book opened f ∙ ap (λ (v : Ledger). if_any v.members (family_deductible_in s.period v.rows))
        (sym (beside_value e))
        ∙ sym (family_by_book all_books f)

    pub family_placed : (p : FamilyPlace) → family_place s f ≡ Some p → family_deductible_held p ≡ deductible_of_family all_books f
    family_placed p e = by_book p.held (held_book_own s is.shelf f p e)
        ∙ ap (λ (v : Ledger). if_any v.members (family_deductible_in s.period v.rows)) (sym (place_value p e))
        ∙ sym (family_by_book all_books f)
      where
        by_book : (o : Option FamilyBook) → IfSome o (IsOwnBook s.period f)
            → option_and_then (λ b. if_any b.members (family_deductible_in b.period b.rows)) o
            ≡ if_any (ledger_of_family o).members (family_deductible_in s.period (ledger_of_family o).rows)
        by_book None own = refl
        by_book (Some b) own = ap (λ t. if_any b.members (family_deductible_in t b.rows)) own.period_same

  -- ---- a listed member

  among_by_book : (L : Ledger) (m : Member) → is_among L.members m ≡ is_among (members_of L m.key.family) m
  among_by_book L m = ap (is_member_found m) (sym (listed_in_book L m.key))

  pub among_beside : (m : Member) → family_place s m.key.family ≡ None → is_among s.rest.members m ≡ is_among (amended s).members m
  among_beside m e = among_by_book s.rest m ∙ ap (λ (v : Ledger). is_among v.members m) (sym (beside_value m.key.family e))
      ∙ sym (among_by_book (amended s) m)

  pub among_placed : (m : Member) (p : FamilyPlace) → family_place s m.key.family ≡ Some p
      → is_among (family_value p).members m ≡ is_among (amended s).members m
  among_placed m p e = ap (λ (v : Ledger). is_among v.members m) (sym (place_value m.key.family p e))
      ∙ sym (among_by_book (amended s) m)

-- ---- whether two are one

found_row : (r : Row) (o : Option Row) → is_found r o ≡ true → o ≡ Some r
found_row r None h = absurd (let w : false ≡ true = h in cc)
found_row r (Some s) h = let same : s ≡ r = (row_decides s r).0 h in ap Some same

members_then : (L M : Ledger) → are_members_in L M ≡ true → (m : Member) → Contains L.members m → Contains M.members m
members_then L M h m among = among_then M.members m (each (is_among M.members) L.members m h among)

rows_then : (L M : Ledger) → are_rows_in L M ≡ true → (r : Row) → Contains L.rows r → Contains M.rows r
rows_then L M h r among =
    let found = item_at-found key_cmp key_total row_key M.rows r.key r
    (found_row r (row_under M r.key) (each (has_row M) L.rows r h among)) in found.0

within_itself : (b : LedgerBooks) → IsLedger b.ledger → is_within b b ≡ true
within_itself b is = and_from _ _ (and_from _ _ ((period_decides b.period b.period).1 refl)
    (all_of (is_among b.ledger.members) b.ledger.members (λ m among.
    ap (is_member_found m) (item_at-from_contains member_cmp member_total member_key b.ledger.members m is.members_rise among)
    ∙ (member_decides m m).1 refl)))
    (all_of (has_row b.ledger) b.ledger.rows (λ r among.
    ap (is_found r) (item_at-from_contains key_cmp key_total row_key b.ledger.rows r is.rows_rise among)
    ∙ (row_decides r r).1 refl))

pub one_told : (a b : LedgerBooks) → IsLedger a.ledger → IsLedger b.ledger → (told : Bool) → told ≡ are_one a b → IsTrue told ↔ (a ≡ b)
one_told a b ours theirs told is = (
  λ t.
      let both = and_parts _ _ (sym is ∙ t) in
      let here = and_parts _ _ both.0 in
      let heads = and_parts _ _ here.0 in
      let there = and_parts _ _ both.1 in
      let others = and_parts _ _ there.0 in
      let period : a.period ≡ b.period = (period_decides a.period b.period).0 heads.0 in
      let members : a.ledger.members ≡ b.ledger.members = same_members member_cmp member_total member_key a.ledger.members b.ledger.members
      ours.members_rise theirs.members_rise (members_then a.ledger b.ledger heads.1) (members_then b.ledger a.ledger others.1) in
      let rows : a.ledger.rows ≡ b.ledger.rows = same_members key_cmp key_total row_key a.ledger.rows b.ledger.rows
      ours.rows_rise theirs.rows_rise (rows_then a.ledger b.ledger here.1) (rows_then b.ledger a.ledger there.1) in
      λ i. record { period = period i; ledger = record { members = members i; rows = rows i } },
  λ e. is ∙ ap (are_one a) (sym e) ∙ and_from _ _ (within_itself a ours) (within_itself a ours),
)
