-- A pharmacy's transactions that are asked for stand at the same places in two jobs that differ in names of others.
use Rattle.std.specs.Prelude.{slice_get, if◌then◌else◌, nat_lt, option_and_then}
use Rattle.std.proofs.Common.{◌≡◌, ℕ, suc, ◌+◌, ◌-◌, List, [], ◌∷◌, ◌++◌, map, Bool, true, false, Option, Some, None}
use Rattle.std.proofs.Common.{refl, sym, ap, ◌∙◌, inl, inr, arith}
use Rattle.std.specs.Option.{option_map}
use Rattle.std.specs.List.{All, filter}
use Rattle.std.proofs.lemmas.Bool.{cases_Bool}
use Rattle.std.proofs.lemmas.List.Elements.{All-head, All-tail, filter-append}
use Rattle.std.proofs.lemmas.Option.{slice_get-map}
use Rattle.rx_fields.specs.Numbered.{LotParts}
use Rattle.rx_d0_values.specs.declared.reply.Answer.{Answer}
use Rattle.rx_d0_values.specs.declared.reply.Outcome.{Outcome}
use Rattle.rx_d0_values.specs.declared.transaction.Transaction.{Transaction}
use Rattle.rx_d0_values.specs.declared.transmission.Body.{Body}
use Rattle.rx_d0_values.specs.declared.transmission.Body.TheVariants.{Rejected, Heard}
use Rattle.rx_d0_values.specs.declared.transmission.Heard.{Heard as HeardRecord}
use Rattle.rx_d0_values.specs.declared.transmission.Transmission.{Transmission}
use Rattle.rx_ledger.specs.Fold.{answers_from, fold_replies, ledger_after, ledger_of_body, outcome_of}
use Rattle.rx_ledger.specs.Ledger.{Ledger}
use Rattle.rx_ledger.specs.Members.{is_same}
use Rattle.rx_ledger.specs.Plan.{Plan}
use Rattle.rx_explain.specs.Found.{found_at, found_in, is_match}
use Rattle.rx_explain.specs.Listed.{of_answers, of_batch, of_record}
use Rattle.rx_explain.specs.Names.{AgreesBody, AreNames, DifferInNames, KeepsBody, Names, body_named, heard_named, ledger_named}
use Rattle.rx_explain.specs.Names.{transaction_named}
use Rattle.rx_explain.specs.Spots.{Spot, item, spot_at, spot_in}
use Rattle.rx_explain.specs.declared.at.At.{At}
use Rattle.rx_explain.specs.declared.finding.Query.{Query}
use Rattle.rx_explain.proofs.NamesDecided.{pharmacy-same}
use Rattle.rx_explain.proofs.NamesFolded.{Agree, AreBodies, InOrder, body-in_order, body-ledger}
use Rattle.rx_commands.proofs.NamesReplies.{outcome-kept}

-- ---- own places

-- the transaction there is the pharmacy's
abbrev pub is_own_spot : List ℕ → Option Spot → Bool
is_own_spot own None = false
is_own_spot own (Some s) = is_same s.heard.provider own

abbrev pub is_own_at : List ℕ → List Transmission → At → Bool
is_own_at own ts at = is_own_spot own (spot_at ts at)

-- of a record of others there is none
none-of-others : (own : List ℕ) (h : HeardRecord) → is_same h.provider own ≡ false → (nth : ℕ)
    → is_own_spot own (spot_in nth (Heard h)) ≡ false
none-of-others own h other nth = by-item (item h.list nth)
  where
    by-item : (o : Option Transaction)
        → is_own_spot own (option_map (λ t. let one : Spot = record { heard = h; transaction = t } in one) o) ≡ false
    by-item None = refl
    by-item (Some t) = other

at-record : (own : List ℕ) (ts : List Transmission) (place nth : ℕ) (t : Transmission) (b : Body) → item ts place ≡ Some t
    → t.body ≡ b → is_own_at own ts (record { place = place; nth = nth }) ≡ is_own_spot own (spot_in nth b)
at-record own ts place nth t b is body =
    ap (λ o. is_own_spot own (option_and_then (λ (u : Transmission). spot_in nth u.body) o)) is
    ∙ ap (λ c. is_own_spot own (spot_in nth c)) body

-- items of a mapped list
pub item-mapped : {X Y : Type 0} (f : X → Y) (xs : List X) (k : ℕ) → item (map f xs) k ≡ option_map f (item xs k)
item-mapped f xs k = elim (cases_Bool (nat_lt 0 k)) [
  | inl more ↦ rw more (slice_get-map f xs (k - 1))
  | inr none ↦ rw none refl
]

module _ (own : List ℕ) (n : Names) (keeps : n.pharmacy own ≡ own)
    (same-pharmacy : (p : List ℕ) → is_same (n.pharmacy p) own ≡ is_same p own) where
  spot-named : (nth : ℕ) (b : Body) → is_own_spot own (spot_in nth (body_named n b)) ≡ is_own_spot own (spot_in nth b)
  spot-named nth (Rejected r) = refl
  spot-named nth (Heard h) =
      ap (λ o. is_own_spot own (option_map (λ t. let one : Spot = record { heard = heard_named n h; transaction = t } in one) o))
      (item-mapped (transaction_named n h.provider h.date) h.list nth)
      ∙ by-item (item h.list nth)
    where
      by-item : (o : Option Transaction)
          → is_own_spot own (option_map (λ t. let one : Spot = record { heard = heard_named n h; transaction = t } in one)
          (option_map (transaction_named n h.provider h.date) o))
          ≡ is_own_spot own (option_map (λ t. let one : Spot = record { heard = h; transaction = t } in one) o)
      by-item None = refl
      by-item (Some t) = same-pharmacy h.provider

-- ---- what is found

module _ (w : Query) (q : At → Bool) where
  -- of places that don't pass nothing is kept
  hidden-if : (b : Bool) (at : At) (rest : List At) → q at ≡ false → filter q ((if b then at ∷ [] else []) ++ rest) ≡ filter q rest
  hidden-if true at rest fails = rw fails refl
  hidden-if false at rest fails = refl

  hidden : (place : ℕ) (h : HeardRecord) (nth : ℕ) (answers : List Answer)
      → ((k : ℕ) → q (record { place = place; nth = k }) ≡ false) → filter q (of_answers (found_at w) place h nth answers) ≡ []
  hidden place h nth [] fails = refl
  hidden place h nth (a ∷ answers) fails =
      let at : At = record { place = place; nth = nth } in
      hidden-if (is_match w at h a) at (of_answers (found_at w) place h (nth + 1) answers) (fails nth)
      ∙ hidden place h (nth + 1) answers fails

module _ (own : List ℕ) (lot : LotParts) (plan : Plan) (ts us : List Transmission) (L : Ledger) (n : Names)
    (are : AreNames n) (w : Query) where
  abbrev q : At → Bool
  q = is_own_at own ts

  abbrev found : ℕ → Body → Outcome → List At
  found place b o = filter q (of_record (found_at w) place b o)

  record-alike : (place : ℕ) (t : Transmission) (b : Body) (K : Ledger) → item ts place ≡ Some t → t.body ≡ b
      → AgreesBody n plan b → InOrder n K → KeepsBody n own b
      → found place b (outcome_of lot plan place K b)
      ≡ found place (body_named n b) (outcome_of lot plan place (ledger_named n K) (body_named n b))
  record-alike place t (Rejected r) K here body agree is kept = refl
  record-alike place t (Heard h) K here body agree is kept = elim (cases_Bool (is_same h.provider own)) [
    | inl mine ↦
        let same : body_named n (Heard h) ≡ Heard h = ap Heard (kept mine) in
        ap (found place (Heard h)) (sym (outcome-kept lot plan n are place (Heard h) K agree is same))
        ∙ ap (λ b. found place b (outcome_of lot plan place (ledger_named n K) b)) (sym same)
    | inr other ↦
        let fails : (k : ℕ) → q (record { place = place; nth = k }) ≡ false =
        λ k. at-record own ts place k t (Heard h) here body ∙ none-of-others own h other k in
        hidden w q place h 1 (answers_from lot plan place h 1 h.list K) fails
        ∙ sym (hidden w q place (heard_named n h) 1
        (answers_from lot plan place (heard_named n h) 1 (heard_named n h).list (ledger_named n K)) fails)
  ]

  -- the records from a place on are these
  abbrev AreFrom : ℕ → List Transmission → Type 0
  AreFrom place xs = (k : ℕ) (t : Transmission) → slice_get xs k ≡ Some t → item ts (place + k) ≡ Some t

  one-on : (place k : ℕ) → place + suc k ≡ place + 1 + k
  one-on place k = omega arith

  batch-alike : (place : ℕ) (xs ys : List Transmission) (K : Ledger) → AreFrom place xs → AreBodies lot plan n are xs ys
      → All (Agree lot plan n are) xs → InOrder n K → All (λ t. KeepsBody n own t.body) xs
      → filter q (of_batch (found_at w) place xs (fold_replies lot plan place xs K))
      ≡ filter q (of_batch (found_at w) place ys (fold_replies lot plan place ys (ledger_named n K)))
  batch-alike place [] [] K from same agree is keep = refl
  batch-alike place [] (y ∷ ys) K from same agree is keep = absurd (let e : y.body ∷ map (λ v. v.body) ys ≡ [] = same in cc)
  batch-alike place (x ∷ xs) [] K from same agree is keep =
      absurd (let e : [] ≡ body_named n x.body ∷ map (λ v. body_named n v.body) xs = same in cc)
  batch-alike place (x ∷ xs) (y ∷ ys) K from same agree is keep =
      let P : Transmission → Type 0 = λ t. KeepsBody n own t.body in
      let A : Transmission → Type 0 = Agree lot plan n are in
      let agrees : AgreesBody n plan x.body = All-head A x xs agree in
      let first : y.body ≡ body_named n x.body = cc in
      let rest : AreBodies lot plan n are xs ys = cc in
      let none : place + 0 ≡ place = omega arith in
      let here : item ts place ≡ Some x = ap (item ts) (sym none) ∙ from 0 x refl in
      let next : Ledger = ledger_after lot plan place x K in
      let one : List At = of_record (found_at w) place x.body (outcome_of lot plan place K x.body) in
      let other : List At =
      of_record (found_at w) place y.body (outcome_of lot plan place (ledger_named n K) y.body) in
      let later : List At = of_batch (found_at w) (place + 1) xs (fold_replies lot plan (place + 1) xs next) in
      let after : Ledger → List At = λ N. of_batch (found_at w) (place + 1) ys (fold_replies lot plan (place + 1) ys N) in
      let ledgers : ledger_of_body lot plan place (ledger_named n K) y.body ≡ ledger_named n next =
      ap (ledger_of_body lot plan place (ledger_named n K)) first ∙ body-ledger lot plan n are place x.body K agrees is in
      filter-append q one later
      ∙ ap (λ ats. ats ++ filter q later)
      (record-alike place x x.body K here refl agrees is (All-head P x xs keep)
      ∙ ap (λ b. found place b (outcome_of lot plan place (ledger_named n K) b)) (sym first))
      ∙ ap (λ ats. filter q other ++ ats)
      (batch-alike (place + 1) xs ys next
      (λ k t is-there. ap (item ts) (sym (one-on place k)) ∙ from (suc k) t is-there) rest
      (All-tail A x xs agree) (body-in_order lot plan n are place x.body K agrees is) (All-tail P x xs keep)
      ∙ ap (λ N. filter q (after N)) (sym ledgers))
      ∙ sym (filter-append q other (after (ledger_of_body lot plan place (ledger_named n K) y.body)))

-- ---- two jobs

module _ (own : List ℕ) (plan : Plan) (ts us : List Transmission) (L M : Ledger) (differ : DifferInNames own plan ts us L M)
    (keeps : differ.names.pharmacy own ≡ own) where
  pub same-owner : (p : List ℕ) → is_same (differ.names.pharmacy p) own ≡ is_same p own
  same-owner p =
      ap (is_same (differ.names.pharmacy p)) (sym keeps) ∙ pharmacy-same plan differ.names differ.are_names p own

  -- the records at a place, of both
  pub bodies-at : (place : ℕ)
      → option_map (λ (u : Transmission). u.body) (item us place)
      ≡ option_map (λ (t : Transmission). body_named differ.names t.body) (item ts place)
  bodies-at place =
      sym (item-mapped (λ (u : Transmission). u.body) us place)
      ∙ ap (λ bs. item bs place) differ.records_are
      ∙ item-mapped (λ (t : Transmission). body_named differ.names t.body) ts place

  owners-same : (nth : ℕ) (o p : Option Transmission)
      → option_map (λ (u : Transmission). u.body) p ≡ option_map (λ (t : Transmission). body_named differ.names t.body) o
      → is_own_spot own (option_and_then (λ (t : Transmission). spot_in nth t.body) p)
      ≡ is_own_spot own (option_and_then (λ (t : Transmission). spot_in nth t.body) o)
  owners-same nth None None same = refl
  owners-same nth None (Some u) same = absurd (let e : Some u.body ≡ None = same in cc)
  owners-same nth (Some t) None same = absurd (let e : None ≡ Some (body_named differ.names t.body) = same in cc)
  owners-same nth (Some t) (Some u) same =
      let body : u.body ≡ body_named differ.names t.body = cc in
      ap (λ b. is_own_spot own (spot_in nth b)) body ∙ spot-named own differ.names keeps same-owner nth t.body

  pub own-places : (at : At) → is_own_at own us at ≡ is_own_at own ts at
  own-places at = owners-same at.nth (item ts at.place) (item us at.place) (bodies-at at.place)

  filter-alike : (p r : At → Bool) → ((at : At) → p at ≡ r at) → (ats : List At) → filter p ats ≡ filter r ats
  filter-alike p r same ats = λ i. filter (λ at. same at i) ats

  from-first : (k : ℕ) (t : Transmission) → slice_get ts k ≡ Some t → item ts (1 + k) ≡ Some t
  from-first k t is =
      let more : nat_lt 0 (1 + k) ≡ true = grind arith in
      let same : (1 + k) - 1 ≡ k = omega arith in
      rw more (ap (slice_get ts) same ∙ is)

  pub found-alike : (lot : LotParts) (w : Query) → InOrder differ.names L
      → filter (is_own_at own us) (found_in w 1 us (fold_replies lot plan 1 us M))
      ≡ filter (is_own_at own ts) (found_in w 1 ts (fold_replies lot plan 1 ts L))
  found-alike lot w is =
      let n : Names = differ.names in
      filter-alike (is_own_at own us) (is_own_at own ts) own-places (found_in w 1 us (fold_replies lot plan 1 us M))
      ∙ ap (λ K. filter (is_own_at own ts) (found_in w 1 us (fold_replies lot plan 1 us K))) differ.books_are
      ∙ sym (batch-alike own lot plan ts us L n differ.are_names w 1 ts us L from-first differ.records_are differ.records_agree is
      differ.own_records)
