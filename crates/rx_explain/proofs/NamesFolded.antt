-- A batch with other names on a ledger with these names: the ledger before each transaction, and what the batch changes.
use Rattle.std.specs.Prelude.{not}
use Rattle.std.proofs.Common.{◌≡◌, ℕ, zero, suc, ◌+◌, ◌-◌, ◌++◌, List, [], ◌∷◌, map, take, refl}
use Rattle.std.proofs.Common.{sym, ap, ◌∙◌}
use Rattle.std.specs.List.{All}
use Rattle.std.proofs.lemmas.List.Elements.{All-filter, All-head, All-tail, All-take}
use Rattle.rx_fields.specs.Calendar.{Civil}
use Rattle.rx_fields.specs.Numbered.{LotParts}
use Rattle.rx_fields.specs.Order.{key_cmp}
use Rattle.rx_d0_values.specs.declared.reply.Answer.{Answer}
use Rattle.rx_d0_values.specs.declared.reply.Answer.TheVariants.{Paid, Twice, Approved, Refused}
use Rattle.rx_d0_values.specs.declared.transaction.Transaction.{Transaction}
use Rattle.rx_d0_values.specs.declared.transaction.Transaction.TheVariants.{Bill, Reverse, Faulty}
use Rattle.rx_d0_values.specs.declared.transmission.Body.{Body}
use Rattle.rx_d0_values.specs.declared.transmission.Body.TheVariants.{Rejected, Heard}
use Rattle.rx_d0_values.specs.declared.transmission.Heard.{Heard as HeardRecord}
use Rattle.rx_d0_values.specs.declared.transmission.Transmission.{Transmission}
use Rattle.rx_sorted.specs.Ascending.{IsAscending, has_key}
use Rattle.rx_sorted.proofs.Kept.{IsAscending-put, IsAscending-without}
use Rattle.rx_sorted.proofs.Totals.{All-put}
use Rattle.rx_ledger.specs.Answers.{Asked, after, answer, key_of, paid_row}
use Rattle.rx_ledger.specs.Fold.{answers_from, asked, authorization, fold_ledger, fold_replies, ledger_after, ledger_from}
use Rattle.rx_ledger.specs.Fold.{ledger_of_body, outcome_of}
use Rattle.rx_ledger.specs.Ledger.{Ledger}
use Rattle.rx_ledger.specs.Members.{member_cmp, member_key}
use Rattle.rx_ledger.specs.Plan.{Plan}
use Rattle.rx_ledger.specs.Rows.{row_key}
use Rattle.rx_ledger.proofs.Orders.{key_total}
use Rattle.rx_explain.specs.Before.{ledger_at, ledger_before}
use Rattle.rx_explain.specs.Listed.{of_answers, of_record}
use Rattle.rx_explain.specs.Traces.{event_of, events_of}
use Rattle.rx_explain.specs.declared.at.At.{At}
use Rattle.rx_explain.specs.declared.events.Event.{Event}
use Rattle.rx_explain.specs.Names.{AgreesBody, AgreesRow, AgreesTransaction, AreNames, IsOneDrug, Names, body_named, heard_named}
use Rattle.rx_explain.specs.Names.{key_named, ledger_named, transaction_named}
use Rattle.rx_explain.proofs.NamesDecided.{after-named, answer_named, answered-named}

-- ---- a ledger in order

pub record InOrder (n : Names) (L : Ledger) : Type 0 where
  pub members_rise : IsAscending member_cmp member_key L.members
  pub rows_rise : IsAscending key_cmp row_key L.rows
  pub agreed : All (AgreesRow n) L.rows

pub after-in_order : (n : Names) (a : Asked) (L : Ledger) (t : Transaction) (given : Answer) → AgreesTransaction n a.plan a.provider a.date t
    → InOrder n L → InOrder n (after a L t given)
after-in_order n a L (Bill b) (Paid p) agrees is =
    record {
      members_rise = is.members_rise;
      rows_rise = IsAscending-put key_cmp key_total row_key L.rows (paid_row a b p.number p.pricing) is.rows_rise;
      agreed = All-put key_cmp key_total row_key (AgreesRow n) L.rows (paid_row a b p.number p.pricing) is.agreed agrees.0;
    }
after-in_order n a L (Bill b) (Twice p) agrees is = is
after-in_order n a L (Bill b) (Approved p) agrees is = is
after-in_order n a L (Bill b) (Refused p) agrees is = is
after-in_order n a L (Reverse v) (Paid p) agrees is = is
after-in_order n a L (Reverse v) (Twice p) agrees is = is
after-in_order n a L (Reverse v) (Approved p) agrees is =
    record {
      members_rise = is.members_rise;
      rows_rise = IsAscending-without key_cmp key_total row_key L.rows (key_of a v.reference) is.rows_rise;
      agreed = All-filter (λ r. not (has_key key_cmp row_key (key_of a v.reference) r)) (AgreesRow n) L.rows is.agreed;
    }
after-in_order n a L (Reverse v) (Refused p) agrees is = is
after-in_order n a L (Faulty f) given agrees is = is

pub one-drug : (n : Names) (plan : Plan) (pharmacy : List ℕ) (date : Civil) (t : Transaction)
    → AgreesTransaction n plan pharmacy date t → IsOneDrug n plan t
one-drug n plan pharmacy date (Bill b) agrees = agrees.1
one-drug n plan pharmacy date (Reverse v) agrees = tt
one-drug n plan pharmacy date (Faulty f) agrees = tt

-- ---- lists

pub take-map : {X Y : Type 0} (f : X → Y) (k : ℕ) (xs : List X) → take k (map f xs) ≡ map f (take k xs)
take-map f zero xs = refl
take-map f (suc k) [] = refl
take-map f (suc k) (x ∷ xs) = ap (λ ys. f x ∷ ys) (take-map f k xs)

pub map-both : {X Y : Type 0} (f : X → Y) (xs ys : List X) → map f (xs ++ ys) ≡ map f xs ++ map f ys
map-both f [] ys = refl
map-both f (x ∷ xs) ys = ap (λ zs. f x ∷ zs) (map-both f xs ys)

-- ---- one record

abbrev pub event_named : Names → Event → Event
event_named n e = record e { key = key_named n e.key }

module _ (lot : LotParts) (plan : Plan) (n : Names) (are : AreNames n) where
  module _ (place : ℕ) (h : HeardRecord) where
    abbrev Agrees : Transaction → Type 0
    Agrees = AgreesTransaction n plan h.provider h.date

    next-in_order : (nth : ℕ) (t : Transaction) (ts : List Transaction) (L : Ledger) → All Agrees (t ∷ ts) → InOrder n L
        → InOrder n (after (asked lot plan place h nth) L t (answer (asked lot plan place h nth) L t))
    next-in_order nth t ts L agree is =
        let a = asked lot plan place h nth in
        after-in_order n a L t (answer a L t) (All-head Agrees t ts agree) is

    record-in_order : (nth : ℕ) (ts : List Transaction) (L : Ledger) → All Agrees ts → InOrder n L
        → InOrder n (ledger_from lot plan place h nth ts L)
    record-in_order nth [] L agree is = is
    record-in_order nth (t ∷ ts) L agree is =
        let a = asked lot plan place h nth in
        record-in_order (nth + 1) ts (after a L t (answer a L t)) (All-tail Agrees t ts agree) (next-in_order nth t ts L agree is)

    pub record-ledger : (nth : ℕ) (ts : List Transaction) (L : Ledger) → All Agrees ts → InOrder n L
        → ledger_from lot plan place (heard_named n h) nth (map (transaction_named n h.provider h.date) ts) (ledger_named n L)
        ≡ ledger_named n (ledger_from lot plan place h nth ts L)
    record-ledger nth [] L agree is = refl
    record-ledger nth (t ∷ ts) L agree is =
        let a = asked lot plan place h nth in
        let next : Ledger = after a L t (answer a L t) in
        ap (ledger_from lot plan place (heard_named n h) (nth + 1) (map (transaction_named n h.provider h.date) ts))
        (after-named plan n are L is.members_rise is.rows_rise is.agreed lot h.provider h.date (authorization lot place nth) t
        (one-drug n plan h.provider h.date t (All-head Agrees t ts agree)))
        ∙ record-ledger (nth + 1) ts next (All-tail Agrees t ts agree) (next-in_order nth t ts L agree is)

    pub record-answers : (nth : ℕ) (ts : List Transaction) (L : Ledger) → All Agrees ts → InOrder n L
        → answers_from lot plan place (heard_named n h) nth (map (transaction_named n h.provider h.date) ts) (ledger_named n L)
        ≡ map (answer_named n h.provider) (answers_from lot plan place h nth ts L)
    record-answers nth [] L agree is = refl
    record-answers nth (t ∷ ts) L agree is =
        let a = asked lot plan place h nth in
        let z = asked lot plan place (heard_named n h) nth in
        let drug : IsOneDrug n plan t = one-drug n plan h.provider h.date t (All-head Agrees t ts agree) in
        let next : Ledger = after a L t (answer a L t) in
        let u : Transaction = transaction_named n h.provider h.date t in
        let rest : List Transaction = map (transaction_named n h.provider h.date) ts in
        let later : Ledger = after z (ledger_named n L) u (answer z (ledger_named n L) u) in
        ap (λ (g : Answer). g ∷ answers_from lot plan place (heard_named n h) (nth + 1) rest later)
        (answered-named plan n are L is.members_rise is.rows_rise is.agreed lot h.provider h.date (authorization lot place nth) t drug)
        ∙ ap (λ (gs : List Answer). answer_named n h.provider (answer a L t) ∷ gs)
        (ap (answers_from lot plan place (heard_named n h) (nth + 1) rest)
        (after-named plan n are L is.members_rise is.rows_rise is.agreed lot h.provider h.date (authorization lot place nth) t drug)
        ∙ record-answers (nth + 1) ts next (All-tail Agrees t ts agree) (next-in_order nth t ts L agree is))

    event-named : (at : At) (given : Answer)
        → event_of (heard_named n h) at (answer_named n h.provider given) ≡ map (event_named n) (event_of h at given)
    event-named at (Paid p) = refl
    event-named at (Twice p) = refl
    event-named at (Approved p) = refl
    event-named at (Refused p) = refl

    events-named : (nth : ℕ) (answers : List Answer)
        → of_answers event_of place (heard_named n h) nth (map (answer_named n h.provider) answers)
        ≡ map (event_named n) (of_answers event_of place h nth answers)
    events-named nth [] = refl
    events-named nth (given ∷ answers) =
        let at : At = record { place = place; nth = nth } in
        ap (λ es. es ++ of_answers event_of place (heard_named n h) (nth + 1) (map (answer_named n h.provider) answers))
        (event-named at given)
        ∙ ap (λ es. map (event_named n) (event_of h at given) ++ es) (events-named (nth + 1) answers)
        ∙ sym (map-both (event_named n) (event_of h at given) (of_answers event_of place h (nth + 1) answers))

  pub body-in_order : (place : ℕ) (body : Body) (L : Ledger) → AgreesBody n plan body → InOrder n L
      → InOrder n (ledger_of_body lot plan place L body)
  body-in_order place (Rejected r) L agree is = is
  body-in_order place (Heard h) L agree is = record-in_order place h 1 h.list L agree is

  pub body-ledger : (place : ℕ) (body : Body) (L : Ledger) → AgreesBody n plan body → InOrder n L
      → ledger_of_body lot plan place (ledger_named n L) (body_named n body)
      ≡ ledger_named n (ledger_of_body lot plan place L body)
  body-ledger place (Rejected r) L agree is = refl
  body-ledger place (Heard h) L agree is = record-ledger place h 1 h.list L agree is

  body-events : (place : ℕ) (body : Body) (L : Ledger) → AgreesBody n plan body → InOrder n L
      → of_record event_of place (body_named n body) (outcome_of lot plan place (ledger_named n L) (body_named n body))
      ≡ map (event_named n) (of_record event_of place body (outcome_of lot plan place L body))
  body-events place (Rejected r) L agree is = refl
  body-events place (Heard h) L agree is =
      ap (of_answers event_of place (heard_named n h) 1) (record-answers place h 1 h.list L agree is)
      ∙ events-named place h 1 (answers_from lot plan place h 1 h.list L)

  -- ---- a batch

  abbrev pub AreBodies : List Transmission → List Transmission → Type 0
  AreBodies ts us = map (λ u. u.body) us ≡ map (λ t. body_named n t.body) ts

  abbrev pub Agree : Transmission → Type 0
  Agree t = AgreesBody n plan t.body

  pub batch-in_order : (place : ℕ) (ts : List Transmission) (L : Ledger) → All Agree ts → InOrder n L
      → InOrder n (fold_ledger lot plan place ts L)
  batch-in_order place [] L agree is = is
  batch-in_order place (t ∷ ts) L agree is =
      batch-in_order (place + 1) ts (ledger_after lot plan place t L) (All-tail Agree t ts agree)
      (body-in_order place t.body L (All-head Agree t ts agree) is)

  pub batch-ledger : (place : ℕ) (ts us : List Transmission) (L : Ledger) → AreBodies ts us → All Agree ts → InOrder n L
      → fold_ledger lot plan place us (ledger_named n L) ≡ ledger_named n (fold_ledger lot plan place ts L)
  batch-ledger place [] [] L same agree is = refl
  batch-ledger place [] (u ∷ us) L same agree is = absurd (let e : u.body ∷ map (λ v. v.body) us ≡ [] = same in cc)
  batch-ledger place (t ∷ ts) [] L same agree is =
      absurd (let e : [] ≡ body_named n t.body ∷ map (λ v. body_named n v.body) ts = same in cc)
  batch-ledger place (t ∷ ts) (u ∷ us) L same agree is =
      let first : u.body ≡ body_named n t.body = cc in
      let rest : AreBodies ts us = cc in
      let here : AgreesBody n plan t.body = All-head Agree t ts agree in
      ap (λ b. fold_ledger lot plan (place + 1) us (ledger_of_body lot plan place (ledger_named n L) b)) first
      ∙ ap (fold_ledger lot plan (place + 1) us) (body-ledger place t.body L here is)
      ∙ batch-ledger (place + 1) ts us (ledger_after lot plan place t L) rest (All-tail Agree t ts agree)
      (body-in_order place t.body L here is)

  pub batch-events : (place : ℕ) (ts us : List Transmission) (L : Ledger) → AreBodies ts us → All Agree ts → InOrder n L
      → events_of place us (fold_replies lot plan place us (ledger_named n L))
      ≡ map (event_named n) (events_of place ts (fold_replies lot plan place ts L))
  batch-events place [] [] L same agree is = refl
  batch-events place [] (u ∷ us) L same agree is = absurd (let e : u.body ∷ map (λ v. v.body) us ≡ [] = same in cc)
  batch-events place (t ∷ ts) [] L same agree is =
      absurd (let e : [] ≡ body_named n t.body ∷ map (λ v. body_named n v.body) ts = same in cc)
  batch-events place (t ∷ ts) (u ∷ us) L same agree is =
      let first : u.body ≡ body_named n t.body = cc in
      let rest : AreBodies ts us = cc in
      let here : AgreesBody n plan t.body = All-head Agree t ts agree in
      let next : Ledger = ledger_after lot plan place t L in
      let events : List Event = of_record event_of place t.body (outcome_of lot plan place L t.body) in
      let later : List Event = events_of (place + 1) ts (fold_replies lot plan (place + 1) ts next) in
      ap (λ b. of_record event_of place b (outcome_of lot plan place (ledger_named n L) b)
      ++ events_of (place + 1) us (fold_replies lot plan (place + 1) us (ledger_of_body lot plan place (ledger_named n L) b))) first
      ∙ ap (λ es. es ++ events_of (place + 1) us
      (fold_replies lot plan (place + 1) us (ledger_of_body lot plan place (ledger_named n L) (body_named n t.body))))
      (body-events place t.body L here is)
      ∙ ap (λ M. map (event_named n) events ++ events_of (place + 1) us (fold_replies lot plan (place + 1) us M))
      (body-ledger place t.body L here is)
      ∙ ap (λ es. map (event_named n) events ++ es)
      (batch-events (place + 1) ts us next rest (All-tail Agree t ts agree) (body-in_order place t.body L here is))
      ∙ sym (map-both (event_named n) events later)

  -- ---- before a transaction

  pub bodies-before : (k : ℕ) (ts us : List Transmission) → AreBodies ts us → AreBodies (take k ts) (take k us)
  bodies-before k ts us same =
      sym (take-map (λ u. u.body) k us) ∙ ap (take k) same ∙ take-map (λ t. body_named n t.body) k ts

  pub at-in_order : (ts : List Transmission) (L : Ledger) (place : ℕ) → All Agree ts → InOrder n L
      → InOrder n (ledger_at lot plan ts L place)
  at-in_order ts L place agree is =
      batch-in_order 1 (take (place - 1) ts) L (All-take Agree (place - 1) ts agree) is

  pub before-in_order : (ts : List Transmission) (L : Ledger) (place : ℕ) (h : HeardRecord) (nth : ℕ) → All Agree ts
      → AgreesBody n plan (Heard h) → InOrder n L → InOrder n (ledger_before lot plan ts L place h nth)
  before-in_order ts L place h nth agree here is =
      record-in_order place h 1 (take (nth - 1) h.list) (ledger_at lot plan ts L place)
      (All-take (AgreesTransaction n plan h.provider h.date) (nth - 1) h.list here) (at-in_order ts L place agree is)

  pub before-named : (ts us : List Transmission) (L : Ledger) (place : ℕ) (h : HeardRecord) (nth : ℕ) → AreBodies ts us
      → All Agree ts → AgreesBody n plan (Heard h) → InOrder n L
      → ledger_before lot plan us (ledger_named n L) place (heard_named n h) nth
      ≡ ledger_named n (ledger_before lot plan ts L place h nth)
  before-named ts us L place h nth same agree here is =
      ap (ledger_from lot plan place (heard_named n h) 1 (take (nth - 1) (heard_named n h).list))
      (batch-ledger 1 (take (place - 1) ts) (take (place - 1) us) L (bodies-before (place - 1) ts us same)
      (All-take Agree (place - 1) ts agree) is)
      ∙ ap (λ list. ledger_from lot plan place (heard_named n h) 1 list (ledger_named n (ledger_at lot plan ts L place)))
      (take-map (transaction_named n h.provider h.date) (nth - 1) h.list)
      ∙ record-ledger place h 1 (take (nth - 1) h.list) (ledger_at lot plan ts L place)
      (All-take (AgreesTransaction n plan h.provider h.date) (nth - 1) h.list here) (at-in_order ts L place agree is)
