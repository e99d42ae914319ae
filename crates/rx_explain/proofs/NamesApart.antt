-- Explanations of a pharmacy's transaction in two jobs that differ in names of others differ in these only.
use Rattle.std.specs.Prelude.{slice_get, nat_lt, not, option_and_then}
use Rattle.std.proofs.Common.{◌≡◌, ℕ, zero, suc, ◌+◌, ◌-◌, List, [], ◌∷◌, map, take, true, Option, Some, None, refl, sym}
use Rattle.std.proofs.Common.{ap, subst, ◌∙◌, inl, inr}
use Rattle.std.specs.Option.{option_map}
use Rattle.std.specs.List.{All}
use Rattle.std.proofs.lemmas.Bool.{cases_Bool}
use Rattle.std.proofs.lemmas.List.Elements.{All-filter, All-head, All-tail}
use Rattle.std.proofs.lemmas.Option.{option_and_then_some}
use Rattle.rx_fields.specs.Calendar.{Civil}
use Rattle.rx_fields.specs.Numbered.{LotParts}
use Rattle.rx_fields.specs.Order.{key_cmp}
use Rattle.rx_d0_values.specs.declared.bill.BillParts.{BillParts}
use Rattle.rx_d0_values.specs.declared.reply.Answer.{Answer}
use Rattle.rx_d0_values.specs.declared.reply.Answer.TheVariants.{Paid, Twice, Approved, Refused}
use Rattle.rx_d0_values.specs.declared.transaction.Transaction.{Transaction}
use Rattle.rx_d0_values.specs.declared.transaction.Transaction.TheVariants.{Bill, Reverse, Faulty}
use Rattle.rx_d0_values.specs.declared.transmission.Body.{Body}
use Rattle.rx_d0_values.specs.declared.transmission.Body.TheVariants.{Rejected, Heard}
use Rattle.rx_d0_values.specs.declared.transmission.Heard.{Heard as HeardRecord}
use Rattle.rx_d0_values.specs.declared.transmission.Transmission.{Transmission}
use Rattle.rx_sorted.specs.Ascending.{has_key}
use Rattle.rx_sorted.proofs.Totals.{All-put}
use Rattle.rx_ledger.specs.Answers.{Asked, after, answer, key_of, paid_row}
use Rattle.rx_ledger.specs.Fold.{asked, fold_ledger, fold_replies, ledger_after, ledger_from, ledger_of_body}
use Rattle.rx_ledger.specs.Ledger.{Ledger}
use Rattle.rx_ledger.specs.Members.{is_same}
use Rattle.rx_ledger.specs.Plan.{Plan}
use Rattle.rx_ledger.specs.Rows.{row_key}
use Rattle.rx_ledger.proofs.Orders.{key_total}
use Rattle.rx_explain.specs.Before.{ledger_at, ledger_before}
use Rattle.rx_explain.specs.Explained.{IsExplained, IsOnLedger}
use Rattle.rx_explain.specs.Seen.{IsAlike}
use Rattle.rx_explain.specs.Spots.{Spot, item, spot_at, spot_in}
use Rattle.rx_explain.specs.Traces.{events_of}
use Rattle.rx_explain.specs.declared.at.At.{At}
use Rattle.rx_explain.specs.declared.explanation.Explanation.{Explanation}
use Rattle.rx_explain.specs.Names.{AgreesBody, DifferInNames, KeepsBody, KeepsRow, Names, bill_named, body_named, heard_named}
use Rattle.rx_explain.specs.Names.{ledger_named, transaction_named}
use Rattle.rx_explain.proofs.NamesAlike.{explanations-alike}
use Rattle.rx_explain.proofs.NamesFolded.{InOrder, batch-events, before-in_order, before-named, event_named}

-- ---- items of lists

pub All-item : {X : Type 0} (P : X → Type 0) (xs : List X) (k : ℕ) (x : X) → All P xs → slice_get xs k ≡ Some x → P x
All-item P [] k x all is = absurd (let e : None ≡ Some x = is in cc)
All-item P (y ∷ ys) zero x all is = let same : y ≡ x = cc in subst P same (All-head P y ys all)
All-item P (y ∷ ys) (suc k) x all is = All-item P ys k x (All-tail P y ys all) is

pub item-map : {X Y : Type 0} (f : X → Y) (xs : List X) (k : ℕ) (x : X) → slice_get xs k ≡ Some x → slice_get (map f xs) k ≡ Some (f x)
item-map f [] k x is = absurd (let e : None ≡ Some x = is in cc)
item-map f (y ∷ ys) zero x is = let same : y ≡ x = cc in ap (λ z. Some (f z)) same
item-map f (y ∷ ys) (suc k) x is = item-map f ys k x is

pub item-unmap : {X Y : Type 0} (f : X → Y) (xs : List X) (k : ℕ) (y : Y) → slice_get (map f xs) k ≡ Some y
    → (x : X) × ((slice_get xs k ≡ Some x) × (f x ≡ y))
item-unmap f [] k y is = absurd (let e : None ≡ Some y = is in cc)
item-unmap f (x ∷ xs) zero y is = (x, (refl, cc))
item-unmap f (x ∷ xs) (suc k) y is = item-unmap f xs k y is

-- an item by its number from 1
pub item-some : {X : Type 0} (xs : List X) (n : ℕ) (x : X) → item xs n ≡ Some x → (nat_lt 0 n ≡ true) × (slice_get xs (n - 1) ≡ Some x)
item-some xs n x is = elim (cases_Bool (nat_lt 0 n)) [
  | inl more ↦ (more, rw more at is)
  | inr none ↦ absurd (let e : None ≡ Some x = rw none at is in cc)
]

pub item-at : {X : Type 0} (xs : List X) (n : ℕ) (x : X) → nat_lt 0 n ≡ true → slice_get xs (n - 1) ≡ Some x → item xs n ≡ Some x
item-at xs n x more is = rw more is

-- ---- the record and the transaction at a place

pub record IsAtPlace (ts : List Transmission) (at : At) (s : Spot) : Type 0 where
  pub transmission : Transmission
  pub counts : nat_lt 0 at.place ≡ true
  pub is_there : slice_get ts (at.place - 1) ≡ Some transmission
  pub body_is : transmission.body ≡ Heard s.heard
  pub transaction_is : item s.heard.list at.nth ≡ Some s.transaction

in-body : (nth : ℕ) (body : Body) (s : Spot) → spot_in nth body ≡ Some s
    → (body ≡ Heard s.heard) × (item s.heard.list nth ≡ Some s.transaction)
in-body nth (Rejected r) s is = absurd (let e : None ≡ Some s = is in cc)
in-body nth (Heard h) s is = in-record (item h.list nth) refl is
  where
    in-record : (o : Option Transaction) → item h.list nth ≡ o
        → option_map (λ t. let one : Spot = record { heard = h; transaction = t } in one) o ≡ Some s
        → (Heard h ≡ Heard s.heard) × (item s.heard.list nth ≡ Some s.transaction)
    in-record None found is = absurd (let e : None ≡ Some s = is in cc)
    in-record (Some t) found is =
        let one : Spot = record { heard = h; transaction = t } in
        let same : one ≡ s = cc in (
          ap (λ (x : Spot). Heard x.heard) same,
          ap (λ (x : Spot). item x.heard.list nth) (sym same) ∙ found ∙ ap (λ (x : Spot). Some x.transaction) same,
        )

pub at-place : (ts : List Transmission) (at : At) (s : Spot) → spot_at ts at ≡ Some s → IsAtPlace ts at s
at-place ts at s is =
    option_and_then_some (λ (t : Transmission). spot_in at.nth t.body) (item ts at.place) s is
    (λ t t-is s-is.
    let there = item-some ts at.place t t-is in
    let body = in-body at.nth t.body s s-is in
    record { transmission = t; counts = there.0; is_there = there.1; body_is = body.0; transaction_is = body.1 })

-- ---- own claims keep their names

module _ (n : Names) (own : List ℕ) where
  -- of a transaction of a pharmacy
  record KeepsTransaction (provider : List ℕ) (date : Civil) (t : Transaction) : Type 0 where
    keeps : is_same provider own ≡ true → (n.pharmacy provider ≡ provider) × (transaction_named n provider date t ≡ t)

  after-keeps : (a : Asked) (L : Ledger) (t : Transaction) (given : Answer) → KeepsTransaction a.provider a.date t
      → All (KeepsRow n own) L.rows → All (KeepsRow n own) (after a L t given).rows
  after-keeps a L (Bill b) (Paid p) kept all =
      All-put key_cmp key_total row_key (KeepsRow n own) L.rows (paid_row a b p.number p.pricing) all
      (λ mine.
      let both = kept.keeps mine in
      let bill : bill_named n a.provider b ≡ b = let e = both.1 in cc in
      λ i. record {
        key = record {
          provider = both.0 i;
          reference = ap (λ (c : BillParts). c.reference) bill i;
          date = a.date;
        };
        family = ap (λ (c : BillParts). c.family) bill i;
        person = ap (λ (c : BillParts). c.person) bill i;
        product = ap (λ (c : BillParts). c.product) bill i;
        quantity = b.quantity;
        days = b.days;
        pricing = p.pricing;
        number = p.number;
      })
  after-keeps a L (Bill b) (Twice p) kept all = all
  after-keeps a L (Bill b) (Approved p) kept all = all
  after-keeps a L (Bill b) (Refused p) kept all = all
  after-keeps a L (Reverse v) (Paid p) kept all = all
  after-keeps a L (Reverse v) (Twice p) kept all = all
  after-keeps a L (Reverse v) (Approved p) kept all =
      All-filter (λ r. not (has_key key_cmp row_key (key_of a v.reference) r)) (KeepsRow n own) L.rows all
  after-keeps a L (Reverse v) (Refused p) kept all = all
  after-keeps a L (Faulty f) given kept all = all

  -- of each transaction of a record
  abbrev KeepEach : List ℕ → Civil → List Transaction → Type 0
  KeepEach provider date [] = Unit {0}
  KeepEach provider date (t ∷ ts) = KeepsTransaction provider date t × KeepEach provider date ts

  keep-each : (provider : List ℕ) (date : Civil) (ts : List Transaction)
      → (is_same provider own ≡ true → (n.pharmacy provider ≡ provider) × (map (transaction_named n provider date) ts ≡ ts))
      → KeepEach provider date ts
  keep-each provider date [] kept = tt
  keep-each provider date (t ∷ ts) kept = (
    record { keeps = λ mine. ((kept mine).0, let e = (kept mine).1 in cc) },
    keep-each provider date ts (λ mine. ((kept mine).0, let e = (kept mine).1 in cc)),
  )

  keep-record : (h : HeardRecord) → (is_same h.provider own ≡ true → heard_named n h ≡ h) → KeepEach h.provider h.date h.list
  keep-record h kept =
      keep-each h.provider h.date h.list
      (λ mine. (ap (λ (g : HeardRecord). g.provider) (kept mine), ap (λ (g : HeardRecord). g.list) (kept mine)))

  keep-take : (provider : List ℕ) (date : Civil) (k : ℕ) (ts : List Transaction) → KeepEach provider date ts
      → KeepEach provider date (take k ts)
  keep-take provider date zero ts all = tt
  keep-take provider date (suc k) [] all = tt
  keep-take provider date (suc k) (t ∷ ts) all = (all.0, keep-take provider date k ts all.1)

  module _ (lot : LotParts) (plan : Plan) where
    record-keeps : (place : ℕ) (h : HeardRecord) (nth : ℕ) (ts : List Transaction) (L : Ledger) → KeepEach h.provider h.date ts
        → All (KeepsRow n own) L.rows → All (KeepsRow n own) (ledger_from lot plan place h nth ts L).rows
    record-keeps place h nth [] L each all = all
    record-keeps place h nth (t ∷ ts) L each all =
        let a = asked lot plan place h nth in
        record-keeps place h (nth + 1) ts (after a L t (answer a L t)) each.1 (after-keeps a L t (answer a L t) each.0 all)

    body-keeps : (place : ℕ) (body : Body) (L : Ledger) → KeepsBody n own body → All (KeepsRow n own) L.rows
        → All (KeepsRow n own) (ledger_of_body lot plan place L body).rows
    body-keeps place (Rejected r) L kept all = all
    body-keeps place (Heard h) L kept all = record-keeps place h 1 h.list L (keep-record h kept) all

    batch-keeps : (place : ℕ) (k : ℕ) (ts : List Transmission) (L : Ledger) → All (λ t. KeepsBody n own t.body) ts
        → All (KeepsRow n own) L.rows → All (KeepsRow n own) (fold_ledger lot plan place (take k ts) L).rows
    batch-keeps place zero ts L each all = all
    batch-keeps place (suc k) [] L each all = all
    batch-keeps place (suc k) (t ∷ ts) L each all =
        let P : Transmission → Type 0 = λ u. KeepsBody n own u.body in
        batch-keeps (place + 1) k ts (ledger_after lot plan place t L) (All-tail P t ts each)
        (body-keeps place t.body L (All-head P t ts each) all)

    pub before-keeps : (ts : List Transmission) (L : Ledger) (place : ℕ) (h : HeardRecord) (nth : ℕ)
        → All (λ t. KeepsBody n own t.body) ts → (is_same h.provider own ≡ true → heard_named n h ≡ h)
        → All (KeepsRow n own) L.rows → All (KeepsRow n own) (ledger_before lot plan ts L place h nth).rows
    before-keeps ts L place h nth each kept all =
        record-keeps place h 1 (take (nth - 1) h.list) (ledger_at lot plan ts L place)
        (keep-take h.provider h.date (nth - 1) h.list (keep-record h kept))
        (batch-keeps 1 (place - 1) ts L each all)

-- ---- the explanations

module _ (own : List ℕ) (plan : Plan) (ts us : List Transmission) (L M : Ledger)
    (differ : DifferInNames own plan ts us L M) (is : InOrder differ.names L) (at : At) (s : Spot) (there : spot_at ts at ≡ Some s)
    (mine : is_same s.heard.provider own ≡ true) where
  abbrev n : Names
  n = differ.names

  place : IsAtPlace ts at s
  place = at-place ts at s there

  kept-heard : heard_named n s.heard ≡ s.heard
  kept-heard =
      subst (KeepsBody n own) place.body_is
      (All-item (λ t. KeepsBody n own t.body) ts (at.place - 1) place.transmission differ.own_records place.is_there) mine

  kept-transaction : transaction_named n s.heard.provider s.heard.date s.transaction ≡ s.transaction
  kept-transaction =
      let found = item-some s.heard.list at.nth s.transaction place.transaction_is in
      let mapped : slice_get (map (transaction_named n s.heard.provider s.heard.date) s.heard.list) (at.nth - 1)
      ≡ Some (transaction_named n s.heard.provider s.heard.date s.transaction) =
      item-map (transaction_named n s.heard.provider s.heard.date) s.heard.list (at.nth - 1) s.transaction found.1 in
      let same : map (transaction_named n s.heard.provider s.heard.date) s.heard.list ≡ s.heard.list =
      ap (λ (h : HeardRecord). h.list) kept-heard in
      let e : Some (transaction_named n s.heard.provider s.heard.date s.transaction) ≡ Some s.transaction =
      sym mapped ∙ ap (λ list. slice_get list (at.nth - 1)) same ∙ found.1 in
      cc

  -- the other job has the transaction at this place
  pub there-too : spot_at us at ≡ Some s
  there-too =
      let body : slice_get (map (λ (t : Transmission). body_named n t.body) ts) (at.place - 1)
      ≡ Some (body_named n place.transmission.body) =
      item-map (λ (t : Transmission). body_named n t.body) ts (at.place - 1) place.transmission place.is_there in
      let other = item-unmap (λ (u : Transmission). u.body) us (at.place - 1) (body_named n place.transmission.body)
      (ap (λ bodies. slice_get bodies (at.place - 1)) differ.records_are ∙ body) in
      let same : other.0.body ≡ Heard s.heard =
      other.1.1 ∙ ap (body_named n) place.body_is ∙ ap Heard kept-heard in
      ap (option_and_then (λ (t : Transmission). spot_in at.nth t.body))
      (item-at us at.place other.0 place.counts other.1.0)
      ∙ ap (spot_in at.nth) same
      ∙ ap (option_map (λ t. let one : Spot = record { heard = s.heard; transaction = t } in one)) place.transaction_is

module _ (own : List ℕ) (lot : LotParts) (plan : Plan) (ts us : List Transmission) (L M : Ledger)
    (differ : DifferInNames own plan ts us L M) (is : InOrder differ.names L) (at : At) (s : Spot) (there : spot_at ts at ≡ Some s)
    (mine : is_same s.heard.provider own ≡ true) where
  pub explained-alike : (x y : Explanation) → IsExplained lot plan ts L at (Some s) (Some x)
      → IsExplained lot plan us M at (Some s) (Some y) → IsAlike x y
  explained-alike x y first second =
      let before : Ledger = ledger_before lot plan ts L at.place s.heard at.nth in
      let n : Names = differ.names in
      let found : IsAtPlace ts at s = at-place ts at s there in
      let agrees : AgreesBody n plan (Heard s.heard) =
      subst (AgreesBody n plan) found.body_is
      (All-item (λ t. AgreesBody n plan t.body) ts (at.place - 1) found.transmission differ.records_agree found.is_there) in
      let heard-kept : heard_named n s.heard ≡ s.heard = kept-heard own plan ts us L M differ is at s there mine in
      let named : IsOnLedger lot plan (ledger_before lot plan us (ledger_named n L) at.place s.heard at.nth)
      (events_of 1 us (fold_replies lot plan 1 us (ledger_named n L))) at s y =
      subst (λ K. IsOnLedger lot plan (ledger_before lot plan us K at.place s.heard at.nth)
      (events_of 1 us (fold_replies lot plan 1 us K)) at s y) differ.books_are second in
      let ledger : ledger_before lot plan us (ledger_named n L) at.place s.heard at.nth ≡ ledger_named n before =
      ap (λ h. ledger_before lot plan us (ledger_named n L) at.place h at.nth) (sym heard-kept)
      ∙ before-named lot plan n differ.are_names ts us L at.place s.heard at.nth differ.records_are
      differ.records_agree agrees is in
      let events = batch-events lot plan n differ.are_names 1 ts us L differ.records_are differ.records_agree is in
      let last : IsOnLedger lot plan (ledger_named n before)
      (map (event_named n) (events_of 1 ts (fold_replies lot plan 1 ts L))) at s y =
      subst (λ es. IsOnLedger lot plan (ledger_named n before) es at s y) events
      (subst (λ K. IsOnLedger lot plan K (events_of 1 us (fold_replies lot plan 1 us (ledger_named n L))) at s y) ledger named) in
      explanations-alike plan n differ.are_names before
      (before-in_order lot plan n differ.are_names ts L at.place s.heard at.nth differ.records_agree agrees is) own
      (before-keeps n own lot plan ts L at.place s.heard at.nth differ.own_records (λ m. heard-kept) differ.own_claims)
      lot (events_of 1 ts (fold_replies lot plan 1 ts L)) at s mine
      (ap (λ (h : HeardRecord). h.provider) heard-kept)
      (kept-transaction own plan ts us L M differ is at s there mine) x y first last
