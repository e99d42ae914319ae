-- At each point of the fold the row under a key is of the opening row's family or of that of an earlier billing with
-- this key; so each footprint fits its record there, and the fold is that of the job.
use Rattle.std.proofs.Common.{◌≡◌, ℕ, zero, suc, ◌+◌, ◌-◌, ◌<◌, ◌≤◌, true, false, Bool, ◌||◌, List, [], ◌∷◌, ◌++◌, length, get_or}
use Rattle.std.proofs.Common.{take, Option, Some, None, append_assoc, refl, ap, sym, ◌∙◌, inl, inr, arith, subst}
use Rattle.std.specs.BTreeMap.{is_at}
use Rattle.std.specs.List.{flat_map, list_all, list_any}
use Rattle.std.specs.Ordering.{eq_by_cmp, is_eq}
use Rattle.std.proofs.lemmas.Bool.{and_from, cases_Bool}
use Rattle.std.proofs.lemmas.Cmp.{tied_itself}
use Rattle.std.proofs.lemmas.List.{take_all, take_more}
use Rattle.std.proofs.lemmas.List.Concat.{flat_map-cons}
use Rattle.std.proofs.lemmas.List.Folds.{list_any-append}
use Rattle.rx_fields.specs.Numbered.{LotParts}
use Rattle.rx_fields.specs.Order.{id_cmp, key_cmp}
use Rattle.rx_fields.specs.declared.key.Key.{Key}
use Rattle.rx_d0_values.specs.declared.reply.Answer.{Answer}
use Rattle.rx_d0_values.specs.declared.reply.Answer.TheVariants.{Paid, Twice, Approved, Refused}
use Rattle.rx_d0_values.specs.declared.transaction.Transaction.{Transaction}
use Rattle.rx_d0_values.specs.declared.transaction.Transaction.TheVariants.{Bill, Reverse, Faulty}
use Rattle.rx_d0_values.specs.declared.transmission.Body.{Body}
use Rattle.rx_d0_values.specs.declared.transmission.Body.TheVariants.{Rejected, Heard}
use Rattle.rx_d0_values.specs.declared.transmission.Heard.{Heard as HeardRecord}
use Rattle.rx_d0_values.specs.declared.transmission.Transmission.{Transmission}
use Rattle.rx_sorted.proofs.LookUps.{item_at-put, item_at-without}
use Rattle.rx_ledger.proofs.Orders.{id_exact, id_total, key_exact, key_total}
use Rattle.rx_ledger.specs.Answers.{after, answer, key_of, paid_row}
use Rattle.rx_ledger.specs.Fold.{asked, fold_ledger, ledger_after, ledger_from, ledger_of_body}
use Rattle.rx_ledger.specs.Ledger.{Ledger, row_under}
use Rattle.rx_ledger.specs.Named.{key_in}
use Rattle.rx_ledger.specs.Plan.{Plan}
use Rattle.rx_ledger.specs.Rows.{row_key}
use Rattle.rx_ledger.specs.declared.row.Row.{Row}
use Rattle.rx_books_family.specs.Books.{IsInOrder, OfFamily, OfKey, book}
use Rattle.rx_books_parcel.specs.Footprints.{FootprintParts, fits, fits_body, fits_one, names, names_holder}
use Rattle.rx_books_parcel.proofs.Locality.{local_books, local_outside, local_reply, order_after}
use Rattle.rx_schedule.specs.Billed.{has_family}
use Rattle.rx_schedule.specs.Footprints.{billed_by, billers, billers_in, families_named, family_of, footprint_at}
use Rattle.rx_schedule.specs.Footprints.{footprint_of, holders, key_named, no_record, record_at}
use Rattle.rx_schedule.specs.Jobs.{IsHeld, job, ledger_before, reply_at}
use Rattle.rx_schedule.specs.Machine.{IsFoldOf}
use Rattle.rx_schedule.proofs.InOrder.{among-in_order, named_in}
use Rattle.rx_schedule.proofs.Noted.{flat_map-one}

or_left : (a b : Bool) → a ≡ true → a || b ≡ true
or_left a b h = rw h refl

or_right : (a b : Bool) → b ≡ true → a || b ≡ true
or_right true b h = refl
or_right false b h = h

-- a family among some, and among these and others
among_left : (f : List ℕ) (xs ys : List (List ℕ)) → has_family xs f ≡ true → has_family (xs ++ ys) f ≡ true
among_left f xs ys h = list_any-append (is_at (id_cmp f)) xs ys ∙ or_left (has_family xs f) (has_family ys f) h

among_right : (f : List ℕ) (xs ys : List (List ℕ)) → has_family ys f ≡ true → has_family (xs ++ ys) f ≡ true
among_right f xs ys h = list_any-append (is_at (id_cmp f)) xs ys ∙ or_right (has_family xs f) (has_family ys f) h

among_itself : (f : List ℕ) (xs : List (List ℕ)) → has_family (f ∷ xs) f ≡ true
among_itself f xs = or_left (is_eq (id_cmp f f)) (has_family xs f) (ap is_eq (tied_itself id_total f))

among_first : {X : Type 0} (g : X → List (List ℕ)) (x : X) (xs : List X) (f : List ℕ) → has_family (g x) f ≡ true
    → has_family (flat_map g (x ∷ xs)) f ≡ true
among_first g x xs f h = ap (λ ys. has_family ys f) (flat_map-cons g x xs) ∙ among_left f (g x) (flat_map g xs) h

among_rest : {X : Type 0} (g : X → List (List ℕ)) (x : X) (xs : List X) (f : List ℕ) → has_family (flat_map g xs) f ≡ true
    → has_family (flat_map g (x ∷ xs)) f ≡ true
among_rest g x xs f h = ap (λ ys. has_family ys f) (flat_map-cons g x xs) ∙ among_right f (g x) (flat_map g xs) h

-- ---- what holds of each row and each billing is kept

abbrev Holds : (Key → List ℕ → Type 0) → Ledger → Type 0
Holds P L = (key : Key) (r : Row) → row_under L key ≡ Some r → P key r.family

module _ (lot : LotParts) (plan : Plan) (place : ℕ) (h : HeardRecord) (P : Key → List ℕ → Type 0) where
  holds_after : (nth : ℕ) (L : Ledger) (t : Transaction) (given : Answer)
      → ((key : Key) (f : List ℕ) → has_family (billed_by h key t) f ≡ true → P key f) → Holds P L
      → Holds P (after (asked lot plan place h nth) L t given)
  holds_after nth L (Bill b) (Paid p) bills holds = λ key r there.
      let a = asked lot plan place h nth in
      let new : Row = paid_row a b p.number p.pricing in
      let looked = item_at-put key_cmp key_total row_key L.rows new key in
      elim (cases_Bool (is_eq (key_cmp (key_in h b.reference) key))) [
        | inl own ↦
            let e : Some new ≡ Some r = sym (looked ∙ rw own refl) ∙ there in
            let one : new ≡ r = cc in
            subst (λ (x : Row). P key x.family) one
            (bills key b.family (rw own (among_itself b.family [])))
        | inr other ↦ holds key r (sym (looked ∙ rw other refl) ∙ there)
      ]
  holds_after nth L (Bill b) (Twice p) bills holds = holds
  holds_after nth L (Bill b) (Approved p) bills holds = holds
  holds_after nth L (Bill b) (Refused p) bills holds = holds
  holds_after nth L (Reverse v) (Approved p) bills holds = λ key r there.
      let a = asked lot plan place h nth in
      let looked = item_at-without key_cmp key_total row_key L.rows (key_of a v.reference) key in
      elim (cases_Bool (is_eq (key_cmp (key_of a v.reference) key))) [
        | inl own ↦ absurd (let e : None ≡ Some r = sym (looked ∙ rw own refl) ∙ there in cc)
        | inr other ↦ holds key r (sym (looked ∙ rw other refl) ∙ there)
      ]
  holds_after nth L (Reverse v) (Paid p) bills holds = holds
  holds_after nth L (Reverse v) (Twice p) bills holds = holds
  holds_after nth L (Reverse v) (Refused p) bills holds = holds
  holds_after nth L (Faulty x) given bills holds = holds

  holds_from : (nth : ℕ) (ts : List Transaction) (L : Ledger)
      → ((key : Key) (f : List ℕ) → has_family (flat_map (billed_by h key) ts) f ≡ true → P key f) → Holds P L
      → Holds P (ledger_from lot plan place h nth ts L)
  holds_from nth [] L bills holds = holds
  holds_from nth (t ∷ ts) L bills holds =
      let a = asked lot plan place h nth in
      holds_from (nth + 1) ts (after a L t (answer a L t)) (λ key f w. bills key f (among_rest (billed_by h key) t ts f w))
      (holds_after nth L t (answer a L t) (λ key f w. bills key f (among_first (billed_by h key) t ts f w)) holds)

holds_body : (lot : LotParts) (plan : Plan) (place : ℕ) (P : Key → List ℕ → Type 0) (body : Body) (L : Ledger)
    → ((key : Key) (f : List ℕ) → has_family (billers_in key body) f ≡ true → P key f) → Holds P L
    → Holds P (ledger_of_body lot plan place L body)
holds_body lot plan place P (Rejected r) L bills holds = holds
holds_body lot plan place P (Heard h) L bills holds = holds_from lot plan place h P 1 h.list L bills holds

-- ---- the record at a place, and the ledger after it

-- the fold of one record more
fold_more : (lot : LotParts) (plan : Plan) (place i : ℕ) (records : List Transmission) (L : Ledger) → i < length records
    → fold_ledger lot plan place (take (suc i) records) L
    ≡ ledger_after lot plan (place + i) (get_or records i no_record) (fold_ledger lot plan place (take i records) L)
fold_more lot plan place i [] L h = absurd (omega arith)
fold_more lot plan place zero (t ∷ records) L h = ap (λ p. ledger_after lot plan p t L) (omega arith)
fold_more lot plan place (suc i) (t ∷ records) L h =
    fold_more lot plan (place + 1) i records (ledger_after lot plan place t L) (omega arith)
    ∙ ap (λ p. ledger_after lot plan p (get_or records i no_record)
    (fold_ledger lot plan (place + 1) (take i records) (ledger_after lot plan place t L))) (omega arith)

module _ (lot : LotParts) (plan : Plan) (L : Ledger) (records : List Transmission) where
  -- the ledger before the next place is that after the record at this one
  pub next_ledger : (i : ℕ) → 1 ≤ i → i ≤ length records
      → ledger_before lot plan L records (suc i)
      ≡ ledger_after lot plan i (record_at records i) (ledger_before lot plan L records i)
  next_ledger i one to =
      let e : suc i - 1 ≡ suc (i - 1) = omega arith in
      let p : 1 + (i - 1) ≡ i = omega arith in
      ap (λ n. fold_ledger lot plan 1 (take n records) L) e
      ∙ fold_more lot plan 1 (i - 1) records L (omega arith)
      ∙ ap (λ n. ledger_after lot plan n (record_at records i) (ledger_before lot plan L records i)) p

  -- the holders before the next place: those before this one, and the billers in its record
  next_billers : (i : ℕ) (key : Key) → 1 ≤ i → i ≤ length records
      → holders L (take (suc i - 1) records) key
      ≡ family_of (row_under L key) ++ (billers key (take (i - 1) records) ++ billers_in key (record_at records i).body)
  next_billers i key one to =
      let e : suc i - 1 ≡ (i - 1) + 1 = omega arith in
      ap (λ n. holders L (take n records) key) e
      ∙ ap (λ rs. family_of (row_under L key) ++ billers key rs) (take_more records (i - 1) no_record (omega arith))
      ∙ ap (λ fs. family_of (row_under L key) ++ fs)
      (flat_map-one (λ t. billers_in key t.body) (take (i - 1) records) (record_at records i))

  held_more : (i : ℕ) (key : Key) (f : List ℕ) → 1 ≤ i → i ≤ length records
      → has_family (holders L (take (i - 1) records) key) f ≡ true → has_family (holders L (take (suc i - 1) records) key) f ≡ true
  held_more i key f one to h = ap (λ fs. has_family fs f) (next_billers i key one to ∙ sym (append_assoc
      (family_of (row_under L key)) (billers key (take (i - 1) records)) (billers_in key (record_at records i).body)))
      ∙ among_left f (holders L (take (i - 1) records) key) (billers_in key (record_at records i).body) h

  held_new : (i : ℕ) (key : Key) (f : List ℕ) → 1 ≤ i → i ≤ length records
      → has_family (billers_in key (record_at records i).body) f ≡ true
      → has_family (holders L (take (suc i - 1) records) key) f ≡ true
  held_new i key f one to h = ap (λ fs. has_family fs f) (next_billers i key one to)
      ∙ among_right f (family_of (row_under L key)) (billers key (take (i - 1) records) ++ billers_in key (record_at records i).body)
      (among_right f (billers key (take (i - 1) records)) (billers_in key (record_at records i).body) h)

  opening_held : (key : Key) (r : Row) → row_under L key ≡ Some r
      → has_family (family_of (row_under L key) ++ billers key []) r.family ≡ true
  opening_held key r there = rw there (among_itself r.family [])

  -- Holder, at the place after n records
  held_after : (n : ℕ) → n ≤ length records → IsHeld lot plan L records (suc n)
  held_after zero to = opening_held
  held_after (suc n) to =
      let one : 1 ≤ suc n = omega arith in
      let holds = holds_body lot plan (suc n) (λ key f. has_family (holders L (take (suc (suc n) - 1) records) key) f ≡ true)
      (record_at records (suc n)).body (ledger_before lot plan L records (suc n))
      (λ key f w. held_new (suc n) key f one to w)
      (λ key r there. held_more (suc n) key r.family one to (held_after n (omega arith) key r there)) in
      subst (λ M. Holds (λ key f. has_family (holders L (take (suc (suc n) - 1) records) key) f ≡ true) M)
      (sym (next_ledger (suc n) one to)) holds

  -- also at the place after the last record
  pub held_through : (i : ℕ) → 1 ≤ i → i ≤ suc (length records) → IsHeld lot plan L records i
  held_through i one to =
      let e : suc (i - 1) ≡ i = omega arith in
      subst (λ p. IsHeld lot plan L records p) e (held_after (i - 1) (omega arith))

  pub held : (i : ℕ) → 1 ≤ i → i ≤ length records → IsHeld lot plan L records i
  held i one to = held_through i one (omega arith)

-- ---- a footprint that names what the transactions name fits

module _ (L M : Ledger) (earlier : List Transmission) (h : HeardRecord) (F : FootprintParts)
    (held_here : (key : Key) (r : Row) → row_under M key ≡ Some r → has_family (holders L earlier key) r.family ≡ true) where
  all_fit : (ts : List Transaction)
      → ((k : Key) → list_any (eq_by_cmp key_cmp k) (flat_map (key_named h) ts) ≡ true → names F (OfKey k) ≡ true)
      → ((f : List ℕ) → has_family (flat_map (families_named L earlier h) ts) f ≡ true → names F (OfFamily f) ≡ true)
      → list_all (fits_one F h M) ts ≡ true
  all_fit [] keys families = refl
  all_fit (t ∷ ts) keys families =
      and_from (fits_one F h M t) (list_all (fits_one F h M) ts)
      (one_fits t
      (λ k w. keys k (ap (list_any (eq_by_cmp key_cmp k)) (flat_map-cons (key_named h) t ts)
      ∙ list_any-append (eq_by_cmp key_cmp k) (key_named h t) (flat_map (key_named h) ts) ∙ or_left _ _ w))
      (λ f w. families f (among_first (families_named L earlier h) t ts f w)))
      (all_fit ts
      (λ k w. keys k (ap (list_any (eq_by_cmp key_cmp k)) (flat_map-cons (key_named h) t ts)
      ∙ list_any-append (eq_by_cmp key_cmp k) (key_named h t) (flat_map (key_named h) ts)
      ∙ or_right (list_any (eq_by_cmp key_cmp k) (key_named h t)) _ w))
      (λ f w. families f (among_rest (families_named L earlier h) t ts f w)))
    where
      key_itself : (k : Key) → list_any (eq_by_cmp key_cmp k) (k ∷ []) ≡ true
      key_itself k = or_left (is_eq (key_cmp k k)) false (ap is_eq (tied_itself key_total k))

      holder_named : (key : Key) (o : Option Row) → row_under M key ≡ o
          → ((f : List ℕ) → has_family (holders L earlier key) f ≡ true → names F (OfFamily f) ≡ true) → names_holder F o ≡ true
      holder_named key None there families = refl
      holder_named key (Some r) there families = families r.family (held_here key r there)

      one_fits : (t : Transaction) → ((k : Key) → list_any (eq_by_cmp key_cmp k) (key_named h t) ≡ true → names F (OfKey k) ≡ true)
          → ((f : List ℕ) → has_family (families_named L earlier h t) f ≡ true → names F (OfFamily f) ≡ true)
          → fits_one F h M t ≡ true
      one_fits (Bill b) keys families = and_from _ _ (keys (key_in h b.reference) (key_itself (key_in h b.reference)))
          (families b.family (among_itself b.family []))
      one_fits (Reverse v) keys families = and_from _ _ (keys (key_in h v.reference) (key_itself (key_in h v.reference)))
          (holder_named (key_in h v.reference) (row_under M (key_in h v.reference)) refl families)
      one_fits (Faulty x) keys families = refl

body_fits : (L M : Ledger) (earlier : List Transmission) (body : Body)
    → ((key : Key) (r : Row) → row_under M key ≡ Some r → has_family (holders L earlier key) r.family ≡ true)
    → fits_body (footprint_of L earlier body) M body ≡ true
body_fits L M earlier (Rejected r) held_here = refl
body_fits L M earlier (Heard h) held_here =
    let ks = flat_map (key_named h) h.list in
    let fs = flat_map (families_named L earlier h) h.list in
    all_fit L M earlier h (footprint_of L earlier (Heard h)) held_here h.list
    (λ k w. named_in key_cmp key_total key_exact (footprint_of L earlier (Heard h)).keys k
    ∙ among-in_order key_cmp key_total key_exact ks k ∙ w)
    (λ f w. named_in id_cmp id_total id_exact (footprint_of L earlier (Heard h)).families f
    ∙ among-in_order id_cmp id_total id_exact fs f ∙ w)

-- ---- the fold is that of the job

order_from : (lot : LotParts) (plan : Plan) (place : ℕ) (h : HeardRecord) (nth : ℕ) (ts : List Transaction) (L : Ledger)
    → IsInOrder L → IsInOrder (ledger_from lot plan place h nth ts L)
order_from lot plan place h nth [] L order = order
order_from lot plan place h nth (t ∷ ts) L order =
    let a = asked lot plan place h nth in
    order_from lot plan place h (nth + 1) ts (after a L t (answer a L t))
    (order_after lot plan place h nth (record { keys = []; families = [] }) L t (answer a L t) order)

pub order_body : (lot : LotParts) (plan : Plan) (place : ℕ) (L : Ledger) (body : Body) → IsInOrder L
    → IsInOrder (ledger_of_body lot plan place L body)
order_body lot plan place L (Rejected r) order = order
order_body lot plan place L (Heard h) order = order_from lot plan place h 1 h.list L order

order_fold : (lot : LotParts) (plan : Plan) (place : ℕ) (records : List Transmission) (L : Ledger) → IsInOrder L
    → IsInOrder (fold_ledger lot plan place records L)
order_fold lot plan place [] L order = order
order_fold lot plan place (t ∷ records) L order =
    order_fold lot plan (place + 1) records (ledger_after lot plan place t L) (order_body lot plan place L t.body order)

module _ (lot : LotParts) (plan : Plan) (L : Ledger) (records : List Transmission) where
  -- the footprint of a record fits it at its turn
  pub fits_at : (i : ℕ) → 1 ≤ i → i ≤ length records
      → fits (footprint_at L records i) (record_at records i) (ledger_before lot plan L records i) ≡ true
  fits_at i one to = body_fits L (ledger_before lot plan L records i) (take (i - 1) records) (record_at records i).body
      (held lot plan L records i one to)

  pub order_before : IsInOrder L → (i : ℕ) → IsInOrder (ledger_before lot plan L records i)
  order_before order i = order_fold lot plan 1 (take (i - 1) records) L order

  pub is_fold : IsInOrder L → IsFoldOf (job lot plan L records)
      (λ i b. book b (ledger_before lot plan L records i)) (reply_at lot plan L records)
  is_fold order = record {
    begins = λ b. refl;
    replies = λ i at. local_reply lot plan i (footprint_at L records i) (record_at records i)
        (ledger_before lot plan L records i) (order_before order i) (fits_at i at.from_one at.to_count);
    inside = λ i at b n. local_books lot plan i (footprint_at L records i) (record_at records i)
        (ledger_before lot plan L records i) (order_before order i) (fits_at i at.from_one at.to_count) b n
        ∙ ap (book b) (sym (next_ledger lot plan L records i at.from_one at.to_count));
    outside = λ i at b n. ap (book b) (next_ledger lot plan L records i at.from_one at.to_count)
        ∙ local_outside lot plan i (footprint_at L records i) (record_at records i)
        (ledger_before lot plan L records i) (order_before order i) (fits_at i at.from_one at.to_count) b n;
  }

  -- the ledger before the place after the last is that of all records
  pub ledger_end : ledger_before lot plan L records (suc (length records)) ≡ fold_ledger lot plan 1 records L
  ledger_end =
      let e : suc (length records) - 1 ≡ length records = omega arith in
      ap (λ n. fold_ledger lot plan 1 (take n records) L) e
      ∙ ap (λ rs. fold_ledger lot plan 1 rs L) (take_all (length records) records (omega arith))
