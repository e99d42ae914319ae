-- Values that agree are the books of the ledger that they make; and the books of a ledger agree.
use Rattle.std.proofs.Common.{◌≡◌, ℕ, suc, List, [], ◌∷◌, ◌++◌, map, true, false, refl, sym, ap, subst, ◌∙◌, inl, inr, arith}
use Rattle.std.specs.List.{Contains}
use Rattle.std.specs.Ordering.{is_eq}
use Rattle.std.specs.declared.cmp.Ordering.TheVariants.{Equal}
use Rattle.std.proofs.lemmas.Bool.{cases_Bool}
use Rattle.std.proofs.lemmas.Cmp.{tied_back}
use Rattle.std.proofs.lemmas.List.Elements.{All-contains}
use Rattle.rx_fields.specs.Order.{id_cmp, key_cmp}
use Rattle.rx_fields.specs.declared.key.Key.{Key}
use Rattle.rx_sorted.specs.Ascending.{contains_key, itself}
use Rattle.rx_sorted.specs.Joined.{Agree}
use Rattle.rx_sorted.proofs.Agreeing.{filter-joined}
use Rattle.rx_sorted.proofs.Edits.{same_item}
use Rattle.rx_sorted.proofs.Filters.{Contains-filter, Contains-filter_kept}
use Rattle.rx_sorted.proofs.Joined.{IsAscending-joined}
use Rattle.rx_sorted.proofs.Keys.{Equal-from_is_eq}
use Rattle.rx_sorted.proofs.LookUps.{item_at-found}
use Rattle.rx_ledger.specs.declared.member.Member.{Member}
use Rattle.rx_ledger.specs.declared.row.Row.{Row}
use Rattle.rx_ledger.specs.Ledger.{Ledger}
use Rattle.rx_ledger.specs.Members.{member_cmp, member_key}
use Rattle.rx_ledger.specs.Rows.{row_key}
use Rattle.rx_ledger.proofs.Orders.{id_exact, key_exact, key_total, member_exact, member_total}
use Rattle.rx_books_family.specs.Books.{Book, IsInOrder, OfFamily, OfKey, book, has_member, has_row}
use Rattle.rx_books_family.proofs.BookValues.{IsValue, ledger_path}
use Rattle.rx_books_parcel.specs.Footprints.{AreAgreed, FootprintParts, books_in, cut, names, sub}
use Rattle.rx_books_parcel.proofs.Parts.{books_named, part, sub_part, sub_same}

-- ---- the named books are those of the list

Contains-behind : {A : Type 0} (xs ys : List A) (y : A) → Contains ys y → Contains (xs ++ ys) y
Contains-behind [] ys y among = among
Contains-behind (x ∷ xs) ys y among =
    let rest = Contains-behind xs ys y among in (suc rest.0, omega (arith, rest.1), rest.2)

among_keys : (ks : List Key) (cs : List Book) (k : Key) → contains_key key_cmp itself ks k ≡ true
    → Contains (map OfKey ks ++ cs) (OfKey k)
among_keys [] cs k h = absurd (let e : false ≡ true = h in cc)
among_keys (j ∷ ks) cs k h = elim (cases_Bool (is_eq (key_cmp j k))) [
  | inl t ↦ (0, omega arith, ap OfKey (key_exact j k (Equal-from_is_eq _ t)))
  | inr f ↦ let rest = among_keys ks cs k (rw f at h) in (suc rest.0, omega (arith, rest.1), rest.2)
]

among_families : (fs : List (List ℕ)) (f : List ℕ) → contains_key id_cmp itself fs f ≡ true
    → Contains (map OfFamily fs) (OfFamily f)
among_families [] f h = absurd (let e : false ≡ true = h in cc)
among_families (g ∷ fs) f h = elim (cases_Bool (is_eq (id_cmp g f))) [
  | inl t ↦ (0, omega arith, ap OfFamily (id_exact g f (Equal-from_is_eq _ t)))
  | inr n ↦ let rest = among_families fs f (rw n at h) in (suc rest.0, omega (arith, rest.1), rest.2)
]

among_books : (F : FootprintParts) (b : Book) → names F b ≡ true → Contains (books_in F) b
among_books F (OfKey k) n = among_keys F.keys (map OfFamily F.families) k n
among_books F (OfFamily f) n =
    Contains-behind (map OfKey F.keys) (map OfFamily F.families) (OfFamily f) (among_families F.families f n)

named_among : (F : FootprintParts) (b : Book) → Contains (books_in F) b → names F b ≡ true
named_among F b among = All-contains (λ c. names F c ≡ true) (books_in F) b (books_named F) among

-- ---- members are of one family

-- a member stands in one book only
one_book : (b c : Book) (m n : Member) → has_member b m ≡ true → has_member c n ≡ true
    → m.key.family ≡ n.key.family → b ≡ c
one_book (OfKey k) c m n h j e = absurd (let w : false ≡ true = h in cc)
one_book (OfFamily f) (OfKey k) m n h j e = absurd (let w : false ≡ true = j in cc)
one_book (OfFamily f) (OfFamily g) m n h j e =
    ap OfFamily (sym (id_exact m.key.family f (Equal-from_is_eq _ h)) ∙ e ∙ id_exact n.key.family g (Equal-from_is_eq _ j))

-- ---- values that agree

module _ (F : FootprintParts) (v : Book → Ledger) (values : (b : Book) → names F b ≡ true → IsValue b (v b))
    (agreed : AreAgreed F v) where
  rows_agree : Agree key_cmp row_key (books_in F) (λ b. (v b).rows)
  rows_agree = record {
    ascending = λ b among. let value = values b (named_among F b among) in value.order.rows_rise;
    one = λ b c k x y here there h m.
        let at_x = item_at-found key_cmp key_total row_key (v b).rows k x h in
        let at_y = item_at-found key_cmp key_total row_key (v c).rows k y m in
        let tied : key_cmp x.key y.key ≡ Equal =
        key_total.congr x.key k y.key at_x.1 ∙ tied_back key_total y.key k at_y.1 in
        agreed.one b c x y (named_among F b here) (named_among F c there) at_x.0 at_y.0 (ap is_eq tied);
  }

  members_agree : Agree member_cmp member_key (books_in F) (λ b. (v b).members)
  members_agree = record {
    ascending = λ b among. let value = values b (named_among F b among) in value.order.members_rise;
    one = λ b c k x y here there h m.
        let at_x = item_at-found member_cmp member_total member_key (v b).members k x h in
        let at_y = item_at-found member_cmp member_total member_key (v c).members k y m in
        let same : x.key ≡ y.key = member_exact x.key k at_x.1 ∙ sym (member_exact y.key k at_y.1) in
        let value_b = values b (named_among F b here) in
        let value_c = values c (named_among F c there) in
        let one = one_book b c x y (All-contains (λ n. has_member b n ≡ true) (v b).members x value_b.members_own at_x.0)
        (All-contains (λ n. has_member c n ≡ true) (v c).members y value_c.members_own at_y.0)
        (ap (λ j. j.family) same) in
        let at_c : Contains (v c).members x = subst (λ d. Contains (v d).members x) one at_x.0 in
        same_item member_cmp member_total member_key (v c).members x y value_c.order.members_rise at_c at_y.0
        (member_total.congr x.key k y.key at_x.1 ∙ tied_back member_total y.key k at_y.1);
  }

  -- each is the book of their ledger
  pub book_of_sub : (b : Book) → names F b ≡ true → book b (sub F v) ≡ v b
  book_of_sub b n = ledger_path (book b (sub F v)) (v b)
      (filter-joined member_cmp member_total member_key (λ c. (v c).members) (books_in F) members_agree has_member b
      (among_books F b n) (let value = values b n in value.members_own)
      (λ c m among here has.
      let value = values c (named_among F c among) in
      let one = one_book c b m m (All-contains (λ o. has_member c o ≡ true) (v c).members m value.members_own here) has refl in
      subst (λ d. Contains (v d).members m) one here))
      (filter-joined key_cmp key_total row_key (λ c. (v c).rows) (books_in F) rows_agree has_row b (among_books F b n)
      (let value = values b n in value.rows_own)
      (λ c r among here has. agreed.everywhere c b r (named_among F c among) n here has))

sub_in_order : (F : FootprintParts) (v : Book → Ledger) → IsInOrder (sub F v)
sub_in_order F v = record {
  members_rise = IsAscending-joined member_cmp member_total member_key (map (λ b. (v b).members) (books_in F));
  rows_rise = IsAscending-joined key_cmp key_total row_key (map (λ b. (v b).rows) (books_in F));
}

pub order_of_sub : (F : FootprintParts) (v : Book → Ledger) → IsInOrder (sub F v)
order_of_sub = sub_in_order

-- their ledger is all in their books
pub whole_of_sub : (F : FootprintParts) (v : Book → Ledger) → ((b : Book) → names F b ≡ true → book b (sub F v) ≡ v b)
    → part F (sub F v) ≡ sub F v
whole_of_sub F v books =
    sym (sub_part F (sub F v) (sub_in_order F v)) ∙ sub_same F (λ b. book b (sub F v)) v books

-- ---- the books of a ledger

module _ (F : FootprintParts) (v : Book → Ledger) (L : Ledger) (order : IsInOrder L)
    (books : (b : Book) → names F b ≡ true → v b ≡ book b L) where
  row_in : (b : Book) (r : Row) → names F b ≡ true → Contains (v b).rows r → Contains L.rows r × (has_row b r ≡ true)
  row_in b r n among = Contains-filter (has_row b) L.rows r (subst (λ (M : Ledger). Contains M.rows r) (books b n) among)

  -- the books of a ledger in order agree
  pub books_agree : AreAgreed F v
  books_agree = record {
    one = λ b c r s nb nc here there tied.
        let in_r = row_in b r nb here in
        let in_s = row_in c s nc there in
        same_item key_cmp key_total row_key L.rows r s order.rows_rise in_r.0 in_s.0 (Equal-from_is_eq _ tied);
    everywhere = λ b c r nb nc here has.
        let in_r = row_in b r nb here in
        subst (λ (M : Ledger). Contains M.rows r) (sym (books c nc)) (Contains-filter_kept (has_row c) L.rows r in_r.0 has);
  }

  -- and put together they are that ledger, where it is all in them
  pub sub_is : part F L ≡ L → sub F v ≡ L
  sub_is whole = sub_same F v (λ b. book b L) books ∙ sub_part F L order ∙ whole

-- so do those that are cut from it
pub cut_agrees : (F : FootprintParts) (L : Ledger) → IsInOrder L → AreAgreed F (cut F L)
cut_agrees F L order = books_agree F (cut F L) L order (λ b n. rw n)
