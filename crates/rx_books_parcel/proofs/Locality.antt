-- A record on the books of a footprint that fits it gives what it gives on the whole ledger, and changes no other book.
use Rattle.std.proofs.Common.{◌≡◌, ℕ, ◌+◌, ◌&&◌, List, [], ◌∷◌, true, false, Option, Some, None, length, refl, sym, ap, subst, ◌∙◌, inl, inr}
use Rattle.std.specs.Prelude.{nat_lt}
use Rattle.std.specs.List.{filter, list_all, list_any}
use Rattle.std.specs.Ordering.{is_eq}
use Rattle.std.proofs.lemmas.Bool.{and_from, and_parts, both_ways, cases_Bool}
use Rattle.rx_fields.specs.Numbered.{LotParts}
use Rattle.rx_fields.specs.Order.{id_cmp, key_cmp}
use Rattle.rx_fields.specs.declared.key.Key.{Key}
use Rattle.rx_d0_values.specs.declared.reply.Answer.{Answer}
use Rattle.rx_d0_values.specs.declared.reply.Answer.TheVariants.{Paid, Twice, Approved, Refused}
use Rattle.rx_d0_values.specs.declared.reply.Outcome.TheVariants as outcome
use Rattle.rx_d0_values.specs.declared.transaction.Transaction.{Transaction}
use Rattle.rx_d0_values.specs.declared.transaction.Transaction.TheVariants.{Bill, Reverse, Faulty}
use Rattle.rx_d0_values.specs.declared.transmission.Body.{Body}
use Rattle.rx_d0_values.specs.declared.transmission.Body.TheVariants.{Rejected, Heard}
use Rattle.rx_d0_values.specs.declared.transmission.Heard.{Heard as HeardRecord}
use Rattle.rx_d0_values.specs.declared.transmission.Transmission.{Transmission}
use Rattle.rx_sorted.specs.Ascending.{has_key}
use Rattle.rx_sorted.proofs.Edits.{without_absent}
use Rattle.rx_sorted.proofs.FilteredPuts.{filter-put, filter-put_free, filter-without, filter-without_refused}
use Rattle.rx_sorted.proofs.Keys.{Equal-from_is_eq}
use Rattle.rx_sorted.proofs.Kept.{IsAscending-put, IsAscending-without}
use Rattle.rx_sorted.proofs.LookUps.{item_at-found, item_at-put, item_at-without}
use Rattle.rx_ledger.specs.declared.row.Row.{Row}
use Rattle.rx_ledger.specs.Answers.{after, answer, paid_row}
use Rattle.rx_ledger.specs.Decisions.{Asked, key_of}
use Rattle.rx_ledger.specs.Fold.{answers_from, asked, ledger_after, ledger_from, ledger_of_body, outcome_of, reply_to}
use Rattle.rx_ledger.specs.Ledger.{Ledger, row_under}
use Rattle.rx_ledger.specs.Members.{of_family}
use Rattle.rx_ledger.specs.Named.{key_in}
use Rattle.rx_ledger.specs.Plan.{Plan}
use Rattle.rx_ledger.specs.Rows.{row_key}
use Rattle.rx_ledger.proofs.Found.{any_passes}
use Rattle.rx_ledger.proofs.Orders.{id_exact, key_exact, key_total}
use Rattle.rx_ledger.proofs.PaidShape.{paid_new}
use Rattle.rx_ledger.proofs.Passed.{passed_weaker}
use Rattle.rx_books_family.specs.Books.{Book, IsInOrder, OfFamily, OfKey, book, has_row}
use Rattle.rx_books_parcel.specs.Footprints.{FootprintParts, cut, fits, fits_body, fits_one, names, names_holder, sub}
use Rattle.rx_books_family.proofs.BookValues.{ledger_path}
use Rattle.rx_books_parcel.proofs.Parts.{book_part, cut_part, keeps, key_kept, members_part, part, row_part, rows_part}

-- ---- what a transaction needs to know

-- a book that is not named has no row of a named key and family
unnamed_row : (F : FootprintParts) (b : Book) (r : Row) → names F b ≡ false → names F (OfKey r.key) ≡ true
    → names F (OfFamily r.family) ≡ true → has_row b r ≡ false
unnamed_row F (OfKey k) r n key family = elim (cases_Bool (is_eq (key_cmp r.key k))) [
  | inl t ↦ absurd (both_ways _ n (subst (λ j. names F (OfKey j) ≡ true) (key_exact r.key k (Equal-from_is_eq _ t)) key))
  | inr f ↦ f
]
unnamed_row F (OfFamily g) r n key family = elim (cases_Bool (is_eq (id_cmp r.family g))) [
  | inl t ↦ absurd (both_ways _ n (subst (λ f. names F (OfFamily f) ≡ true) (id_exact r.family g (Equal-from_is_eq _ t)) family))
  | inr f ↦ f
]

-- the row under a key has this key
under_key : (L : Ledger) (k : Key) (r : Row) → row_under L k ≡ Some r → r.key ≡ k
under_key L k r there =
    let found = item_at-found key_cmp key_total row_key L.rows k r there in key_exact r.key k found.1

-- ---- one transaction

module _ (lot : LotParts) (plan : Plan) (place : ℕ) (h : HeardRecord) (nth : ℕ) (F : FootprintParts) where
  abbrev a : Asked
  a = asked lot plan place h nth

  -- the family has a member in its part where it has one
  some_part : (L : Ledger) (family : List ℕ) → names F (OfFamily family) ≡ true
      → list_any (of_family family) (part F L).members ≡ list_any (of_family family) L.members
  some_part L family named =
      any_passes (of_family family) (part F L).members
      ∙ ap (λ ms. nat_lt 0 (length ms)) (members_part F family L named)
      ∙ sym (any_passes (of_family family) L.members)

  answer_part : (L : Ledger) (t : Transaction) → fits_one F h L t ≡ true → answer a (part F L) t ≡ answer a L t
  answer_part L (Bill b) f =
      let named = and_parts _ _ f in
      rw (
        some_part L b.family named.1,
        members_part F b.family L named.1,
        rows_part F b.family L named.1,
        row_part F (key_of a b.reference) L named.0,
      ) refl
  answer_part L (Reverse v) f =
      let named = and_parts _ _ f in
      rw (row_part F (key_of a v.reference) L named.0) refl
  answer_part L (Faulty x) f = refl

  after_part : (L : Ledger) (t : Transaction) (given : Answer) → IsInOrder L → fits_one F h L t ≡ true
      → after a (part F L) t given ≡ part F (after a L t given)
  after_part L (Bill b) (Paid p) order f =
      let named = and_parts _ _ f in
      let r : Row = paid_row a b p.number p.pricing in
      ledger_path (after a (part F L) (Bill b) (Paid p)) (part F (after a L (Bill b) (Paid p))) refl
      (sym (filter-put key_cmp key_total row_key (keeps has_row F) L.rows r (key_kept F r named.0) order.rows_rise))
  after_part L (Bill b) (Twice p) order f = refl
  after_part L (Bill b) (Approved p) order f = refl
  after_part L (Bill b) (Refused p) order f = refl
  after_part L (Reverse v) (Approved p) order f =
      ledger_path (after a (part F L) (Reverse v) (Approved p)) (part F (after a L (Reverse v) (Approved p))) refl
      (sym (filter-without key_cmp key_total row_key (keeps has_row F) L.rows (key_of a v.reference)))
  after_part L (Reverse v) (Paid p) order f = refl
  after_part L (Reverse v) (Twice p) order f = refl
  after_part L (Reverse v) (Refused p) order f = refl
  after_part L (Faulty x) given order f = refl

  -- a book that is not named stays
  after_outside : (L : Ledger) (t : Transaction) (given : Answer) → IsInOrder L → fits_one F h L t ≡ true
      → answer a L t ≡ given → (b : Book) → names F b ≡ false → book b (after a L t given) ≡ book b L
  after_outside L (Bill b) (Paid p) order f is c n =
      let named = and_parts _ _ f in
      let r : Row = paid_row a b p.number p.pricing in
      ledger_path (book c (after a L (Bill b) (Paid p))) (book c L) refl
      (filter-put_free key_cmp key_total row_key (has_row c) L.rows r (unnamed_row F c r n named.0 named.1)
      (paid_new a L b p is).free)
  after_outside L (Bill b) (Twice p) order f is c n = refl
  after_outside L (Bill b) (Approved p) order f is c n = refl
  after_outside L (Bill b) (Refused p) order f is c n = refl
  after_outside L (Reverse v) (Approved p) order f is c n =
      let named = and_parts _ _ f in
      ledger_path (book c (after a L (Reverse v) (Approved p))) (book c L) refl
      (by_row (row_under L (key_of a v.reference)) refl named.0 named.1)
    where
      by_row : (o : Option Row) → row_under L (key_of a v.reference) ≡ o → names F (OfKey (key_of a v.reference)) ≡ true
          → names_holder F (row_under L (key_of a v.reference)) ≡ true
          → filter (has_row c) (after a L (Reverse v) (Approved p)).rows ≡ filter (has_row c) L.rows
      by_row None there key holder =
          ap (filter (has_row c)) (without_absent key_cmp key_total row_key L.rows (key_of a v.reference) there)
      by_row (Some r) there key holder =
          let same : r.key ≡ key_of a v.reference = under_key L (key_of a v.reference) r there in
          filter-without_refused key_cmp key_total row_key (has_row c) L.rows (key_of a v.reference) r order.rows_rise there
          (unnamed_row F c r n (rw same key) (rw there at holder))
  after_outside L (Reverse v) (Paid p) order f is c n = refl
  after_outside L (Reverse v) (Twice p) order f is c n = refl
  after_outside L (Reverse v) (Refused p) order f is c n = refl
  after_outside L (Faulty x) given order f is c n = refl

  pub order_after : (L : Ledger) (t : Transaction) (given : Answer) → IsInOrder L → IsInOrder (after a L t given)
  order_after L (Bill b) (Paid p) order = record {
    members_rise = order.members_rise;
    rows_rise = IsAscending-put key_cmp key_total row_key L.rows (paid_row a b p.number p.pricing) order.rows_rise;
  }
  order_after L (Bill b) (Twice p) order = order
  order_after L (Bill b) (Approved p) order = order
  order_after L (Bill b) (Refused p) order = order
  order_after L (Reverse v) (Approved p) order = record {
    members_rise = order.members_rise;
    rows_rise = IsAscending-without key_cmp key_total row_key L.rows (key_of a v.reference) order.rows_rise;
  }
  order_after L (Reverse v) (Paid p) order = order
  order_after L (Reverse v) (Twice p) order = order
  order_after L (Reverse v) (Refused p) order = order
  order_after L (Faulty x) given order = order

  -- ---- the later transactions fit too

  -- a row that stands after a transaction stood before, or is of a named family
  holder_after : (L : Ledger) (t : Transaction) (given : Answer) (k : Key) → fits_one F h L t ≡ true
      → names_holder F (row_under L k) ≡ true → names_holder F (row_under (after a L t given) k) ≡ true
  holder_after L (Bill b) (Paid p) k f holder =
      let named = and_parts _ _ f in
      let r : Row = paid_row a b p.number p.pricing in
      rw (item_at-put key_cmp key_total row_key L.rows r k) (elim (cases_Bool (has_key key_cmp row_key k r)) [
        | inl t ↦ rw t named.1
        | inr n ↦ rw n holder
      ])
  holder_after L (Bill b) (Twice p) k f holder = holder
  holder_after L (Bill b) (Approved p) k f holder = holder
  holder_after L (Bill b) (Refused p) k f holder = holder
  holder_after L (Reverse v) (Approved p) k f holder =
      rw (item_at-without key_cmp key_total row_key L.rows (key_of a v.reference) k)
      (elim (cases_Bool (is_eq (key_cmp (key_of a v.reference) k))) [ inl t ↦ rw t | inr n ↦ rw n holder ])
  holder_after L (Reverse v) (Paid p) k f holder = holder
  holder_after L (Reverse v) (Twice p) k f holder = holder
  holder_after L (Reverse v) (Refused p) k f holder = holder
  holder_after L (Faulty x) given k f holder = holder

  fits_after : (L : Ledger) (t : Transaction) (given : Answer) (u : Transaction) → fits_one F h L t ≡ true
      → fits_one F h L u ≡ true → fits_one F h (after a L t given) u ≡ true
  fits_after L t given (Bill b) f later = later
  fits_after L t given (Reverse v) f later =
      let named = and_parts _ _ later in
      and_from _ _ named.0 (holder_after L t given (key_in h v.reference) f named.1)
  fits_after L t given (Faulty x) f later = later

  pub all_fit_after : (L : Ledger) (t : Transaction) (given : Answer) (ts : List Transaction) → fits_one F h L t ≡ true
      → list_all (fits_one F h L) ts ≡ true → list_all (fits_one F h (after a L t given)) ts ≡ true
  all_fit_after L t given ts f =
      passed_weaker (fits_one F h L) (fits_one F h (after a L t given)) (λ u later. fits_after L t given u f later) ts

-- ---- all transactions of a record

module _ (lot : LotParts) (plan : Plan) (place : ℕ) (h : HeardRecord) (F : FootprintParts) where
  order_from : (nth : ℕ) (ts : List Transaction) (L : Ledger) → IsInOrder L
      → IsInOrder (ledger_from lot plan place h nth ts L)
  order_from nth [] L order = order
  order_from nth (t ∷ ts) L order =
      let a : Asked = asked lot plan place h nth in
      order_from (nth + 1) ts (after a L t (answer a L t)) (order_after lot plan place h nth F L t (answer a L t) order)

  answers_part : (nth : ℕ) (ts : List Transaction) (L : Ledger) → IsInOrder L → list_all (fits_one F h L) ts ≡ true
      → answers_from lot plan place h nth ts (part F L) ≡ answers_from lot plan place h nth ts L
  answers_part nth [] L order f = refl
  answers_part nth (t ∷ ts) L order f =
      let a : Asked = asked lot plan place h nth in
      let named = and_parts _ _ f in
      let given : answer a (part F L) t ≡ answer a L t = answer_part lot plan place h nth F L t named.0 in
      let next : after a (part F L) t (answer a (part F L) t) ≡ part F (after a L t (answer a L t)) =
      ap (after a (part F L) t) given ∙ after_part lot plan place h nth F L t (answer a L t) order named.0 in
      let rest : answers_from lot plan place h (nth + 1) ts (part F (after a L t (answer a L t)))
      ≡ answers_from lot plan place h (nth + 1) ts (after a L t (answer a L t)) =
      answers_part (nth + 1) ts (after a L t (answer a L t)) (order_after lot plan place h nth F L t (answer a L t) order)
      (all_fit_after lot plan place h nth F L t (answer a L t) ts named.0 named.1) in
      let later = ap (answers_from lot plan place h (nth + 1) ts) next ∙ rest in
      λ i. given i ∷ later i

  ledger_part : (nth : ℕ) (ts : List Transaction) (L : Ledger) → IsInOrder L → list_all (fits_one F h L) ts ≡ true
      → ledger_from lot plan place h nth ts (part F L) ≡ part F (ledger_from lot plan place h nth ts L)
  ledger_part nth [] L order f = refl
  ledger_part nth (t ∷ ts) L order f =
      let a : Asked = asked lot plan place h nth in
      let named = and_parts _ _ f in
      let given : answer a (part F L) t ≡ answer a L t = answer_part lot plan place h nth F L t named.0 in
      let next : after a (part F L) t (answer a (part F L) t) ≡ part F (after a L t (answer a L t)) =
      ap (after a (part F L) t) given ∙ after_part lot plan place h nth F L t (answer a L t) order named.0 in
      ap (ledger_from lot plan place h (nth + 1) ts) next
      ∙ ledger_part (nth + 1) ts (after a L t (answer a L t)) (order_after lot plan place h nth F L t (answer a L t) order)
      (all_fit_after lot plan place h nth F L t (answer a L t) ts named.0 named.1)

  ledger_outside : (nth : ℕ) (ts : List Transaction) (L : Ledger) → IsInOrder L → list_all (fits_one F h L) ts ≡ true
      → (b : Book) → names F b ≡ false → book b (ledger_from lot plan place h nth ts L) ≡ book b L
  ledger_outside nth [] L order f b n = refl
  ledger_outside nth (t ∷ ts) L order f b n =
      let a : Asked = asked lot plan place h nth in
      let named = and_parts _ _ f in
      ledger_outside (nth + 1) ts (after a L t (answer a L t)) (order_after lot plan place h nth F L t (answer a L t) order)
      (all_fit_after lot plan place h nth F L t (answer a L t) ts named.0 named.1) b n
      ∙ after_outside lot plan place h nth F L t (answer a L t) order named.0 refl b n

-- ---- a record

module _ (lot : LotParts) (plan : Plan) (place : ℕ) (F : FootprintParts) where
  order_of_body : (L : Ledger) (body : Body) → IsInOrder L → IsInOrder (ledger_of_body lot plan place L body)
  order_of_body L (Rejected r) order = order
  order_of_body L (Heard h) order = order_from lot plan place h F 1 h.list L order

  outcome_part : (L : Ledger) (body : Body) → IsInOrder L → fits_body F L body ≡ true
      → outcome_of lot plan place (part F L) body ≡ outcome_of lot plan place L body
  outcome_part L (Rejected r) order f = refl
  outcome_part L (Heard h) order f = ap outcome.Heard (answers_part lot plan place h F 1 h.list L order f)

  body_part : (L : Ledger) (body : Body) → IsInOrder L → fits_body F L body ≡ true
      → ledger_of_body lot plan place (part F L) body ≡ part F (ledger_of_body lot plan place L body)
  body_part L (Rejected r) order f = refl
  body_part L (Heard h) order f = ledger_part lot plan place h F 1 h.list L order f

  body_outside : (L : Ledger) (body : Body) → IsInOrder L → fits_body F L body ≡ true → (b : Book)
      → names F b ≡ false → book b (ledger_of_body lot plan place L body) ≡ book b L
  body_outside L (Rejected r) order f b n = refl
  body_outside L (Heard h) order f b n = ledger_outside lot plan place h F 1 h.list L order f b n

  -- the record on the part is the record on the whole, in part
  pub reply_part : (t : Transmission) (L : Ledger) → IsInOrder L → fits F t L ≡ true
      → reply_to lot plan place t (part F L) ≡ reply_to lot plan place t L
  reply_part t L order f =
      let same = outcome_part L t.body order f in λ i. record { echo = t.echo; outcome = same i }

  pub after_record : (t : Transmission) (L : Ledger) → IsInOrder L → fits F t L ≡ true
      → ledger_after lot plan place t (part F L) ≡ part F (ledger_after lot plan place t L)
  after_record t L order f = body_part L t.body order f

-- ---- the law

pub local_reply : (lot : LotParts) (plan : Plan) (place : ℕ) (F : FootprintParts) (t : Transmission) (L : Ledger)
    → IsInOrder L → fits F t L ≡ true
    → reply_to lot plan place t (sub F (cut F L)) ≡ reply_to lot plan place t L
local_reply lot plan place F t L order f =
    ap (reply_to lot plan place t) (cut_part F L order) ∙ reply_part lot plan place F t L order f

pub local_books : (lot : LotParts) (plan : Plan) (place : ℕ) (F : FootprintParts) (t : Transmission) (L : Ledger)
    → IsInOrder L → fits F t L ≡ true → (b : Book) → names F b ≡ true
    → book b (ledger_after lot plan place t (sub F (cut F L))) ≡ book b (ledger_after lot plan place t L)
local_books lot plan place F t L order f b n =
    ap (λ M. book b (ledger_after lot plan place t M)) (cut_part F L order)
    ∙ ap (book b) (after_record lot plan place F t L order f)
    ∙ book_part F b (ledger_after lot plan place t L) n

pub local_outside : (lot : LotParts) (plan : Plan) (place : ℕ) (F : FootprintParts) (t : Transmission) (L : Ledger)
    → IsInOrder L → fits F t L ≡ true → (b : Book) → names F b ≡ false
    → book b (ledger_after lot plan place t L) ≡ book b L
local_outside lot plan place F t L order f b n = body_outside lot plan place F L t.body order f b n

pub local_whole : (lot : LotParts) (plan : Plan) (place : ℕ) (F : FootprintParts) (t : Transmission) (L : Ledger)
    → IsInOrder L → fits F t L ≡ true
    → ledger_after lot plan place t (sub F (cut F L)) ≡ sub F (cut F (ledger_after lot plan place t L))
local_whole lot plan place F t L order f =
    ap (ledger_after lot plan place t) (cut_part F L order)
    ∙ after_record lot plan place F t L order f
    ∙ sym (cut_part F (ledger_after lot plan place t L) (order_of_body lot plan place F L t.body order))

-- ---- whether it fits is decided by the part

module _ (F : FootprintParts) (L : Ledger) where
  fits_one_part : (h : HeardRecord) (t : Transaction) → fits_one F h (part F L) t ≡ fits_one F h L t
  fits_one_part h (Bill b) = refl
  fits_one_part h (Reverse v) = elim (cases_Bool (names F (OfKey (key_in h v.reference)))) [
    | inl t ↦ ap (λ o. names F (OfKey (key_in h v.reference)) && names_holder F o) (row_part F (key_in h v.reference) L t)
    | inr n ↦ rw n
  ]
  fits_one_part h (Faulty x) = refl

  all_fit_part : (h : HeardRecord) (ts : List Transaction) → list_all (fits_one F h (part F L)) ts ≡ list_all (fits_one F h L) ts
  all_fit_part h [] = refl
  all_fit_part h (t ∷ ts) =
      let first = fits_one_part h t in
      let rest = all_fit_part h ts in
      λ i. first i && rest i

  fits_body_part : (body : Body) → fits_body F (part F L) body ≡ fits_body F L body
  fits_body_part (Rejected r) = refl
  fits_body_part (Heard h) = all_fit_part h h.list

pub local_fits : (F : FootprintParts) (t : Transmission) (L : Ledger) → IsInOrder L
    → fits F t (sub F (cut F L)) ≡ fits F t L
local_fits F t L order = ap (fits F t) (cut_part F L order) ∙ fits_body_part F L t.body
