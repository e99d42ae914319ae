-- A change of the ledger that no transaction of a batch shows is carried through the batch: the same replies, and the
-- ledger after it with the same change.
use Rattle.std.proofs.Common.{◌≡◌, ℕ, ◌+◌, List, [], ◌∷◌, refl, ap, ◌∙◌}
use Rattle.std.specs.List.{All}
use Rattle.std.proofs.lemmas.List.Elements.{All-head, All-tail}
use Rattle.rx_fields.specs.Numbered.{LotParts}
use Rattle.rx_d0_values.specs.declared.reply.Outcome.TheVariants as outcome
use Rattle.rx_d0_values.specs.declared.transaction.Transaction.{Transaction}
use Rattle.rx_d0_values.specs.declared.transmission.Body.{Body}
use Rattle.rx_d0_values.specs.declared.transmission.Body.TheVariants.{Rejected, Heard}
use Rattle.rx_d0_values.specs.declared.transmission.Heard.{Heard as HeardRecord}
use Rattle.rx_d0_values.specs.declared.transmission.Transmission.{Transmission}
use Rattle.rx_ledger.specs.Answers.{Asked, after, answer}
use Rattle.rx_ledger.specs.Fold.{answers_from, asked, fold_ledger, fold_replies, ledger_after, ledger_from, ledger_of_body, outcome_of, reply_to}
use Rattle.rx_ledger.specs.Ledger.{Ledger}
use Rattle.rx_ledger.specs.Plan.{Plan}
use Rattle.rx_books_upkeep.specs.Batches.{EachOf, EachTransaction}

-- the ledgers that a batch can come to, the transactions that it may have, and the change of the ledger
module _ (lot : LotParts) (plan : Plan) (Comes : Ledger → Type 0) (May : HeardRecord → Transaction → Type 0) (changed : Ledger → Ledger) where
  -- one transaction doesn't show it
  pub record Carries : Type 0 where
    pub same : (place : ℕ) (h : HeardRecord) (nth : ℕ) (t : Transaction) (L : Ledger) → Comes L → May h t
        → answer (asked lot plan place h nth) (changed L) t ≡ answer (asked lot plan place h nth) L t
    pub next : (place : ℕ) (h : HeardRecord) (nth : ℕ) (t : Transaction) (L : Ledger) → Comes L → May h t
        → after (asked lot plan place h nth) (changed L) t (answer (asked lot plan place h nth) L t)
        ≡ changed (after (asked lot plan place h nth) L t (answer (asked lot plan place h nth) L t))
    pub comes : (place : ℕ) (h : HeardRecord) (nth : ℕ) (t : Transaction) (L : Ledger) → Comes L → May h t
        → Comes (after (asked lot plan place h nth) L t (answer (asked lot plan place h nth) L t))

  module _ (carries : Carries) where
    module _ (place : ℕ) (h : HeardRecord) where
      after_one : (nth : ℕ) (t : Transaction) (L : Ledger) → Comes L → May h t
          → after (asked lot plan place h nth) (changed L) t (answer (asked lot plan place h nth) (changed L) t)
          ≡ changed (after (asked lot plan place h nth) L t (answer (asked lot plan place h nth) L t))
      after_one nth t L is may =
          ap (after (asked lot plan place h nth) (changed L) t) (carries.same place h nth t L is may)
          ∙ carries.next place h nth t L is may

      answers_carried : (nth : ℕ) (ts : List Transaction) (L : Ledger) → Comes L → All (May h) ts
          → answers_from lot plan place h nth ts (changed L) ≡ answers_from lot plan place h nth ts L
      answers_carried nth [] L is may = refl
      answers_carried nth (t ∷ ts) L is may =
          let a : Asked = asked lot plan place h nth in
          let first : May h t = All-head (May h) t ts may in
          let given : answer a (changed L) t ≡ answer a L t = carries.same place h nth t L is first in
          let later : answers_from lot plan place h (nth + 1) ts (after a (changed L) t (answer a (changed L) t))
          ≡ answers_from lot plan place h (nth + 1) ts (after a L t (answer a L t)) =
          ap (answers_from lot plan place h (nth + 1) ts) (after_one nth t L is first)
          ∙ answers_carried (nth + 1) ts (after a L t (answer a L t)) (carries.comes place h nth t L is first)
          (All-tail (May h) t ts may) in
          λ i. given i ∷ later i

      ledger_carried : (nth : ℕ) (ts : List Transaction) (L : Ledger) → Comes L → All (May h) ts
          → ledger_from lot plan place h nth ts (changed L) ≡ changed (ledger_from lot plan place h nth ts L)
      ledger_carried nth [] L is may = refl
      ledger_carried nth (t ∷ ts) L is may =
          let a : Asked = asked lot plan place h nth in
          let first : May h t = All-head (May h) t ts may in
          ap (ledger_from lot plan place h (nth + 1) ts) (after_one nth t L is first)
          ∙ ledger_carried (nth + 1) ts (after a L t (answer a L t)) (carries.comes place h nth t L is first)
          (All-tail (May h) t ts may)

      comes_from : (nth : ℕ) (ts : List Transaction) (L : Ledger) → Comes L → All (May h) ts
          → Comes (ledger_from lot plan place h nth ts L)
      comes_from nth [] L is may = is
      comes_from nth (t ∷ ts) L is may =
          let a : Asked = asked lot plan place h nth in
          comes_from (nth + 1) ts (after a L t (answer a L t))
          (carries.comes place h nth t L is (All-head (May h) t ts may)) (All-tail (May h) t ts may)

    -- ---- a record

    outcome_carried : (place : ℕ) (L : Ledger) (body : Body) → Comes L → EachOf May body
        → outcome_of lot plan place (changed L) body ≡ outcome_of lot plan place L body
    outcome_carried place L (Rejected r) is may = refl
    outcome_carried place L (Heard h) is may = ap outcome.Heard (answers_carried place h 1 h.list L is may)

    body_carried : (place : ℕ) (L : Ledger) (body : Body) → Comes L → EachOf May body
        → ledger_of_body lot plan place (changed L) body ≡ changed (ledger_of_body lot plan place L body)
    body_carried place L (Rejected r) is may = refl
    body_carried place L (Heard h) is may = ledger_carried place h 1 h.list L is may

    comes_body : (place : ℕ) (L : Ledger) (body : Body) → Comes L → EachOf May body
        → Comes (ledger_of_body lot plan place L body)
    comes_body place L (Rejected r) is may = is
    comes_body place L (Heard h) is may = comes_from place h 1 h.list L is may

    -- ---- a batch

    abbrev FromBody : Transmission → Type 0
    FromBody t = EachOf May t.body

    pub replies_carried : (place : ℕ) (ts : List Transmission) (L : Ledger) → Comes L → EachTransaction May ts
        → fold_replies lot plan place ts (changed L) ≡ fold_replies lot plan place ts L
    replies_carried place [] L is may = refl
    replies_carried place (t ∷ ts) L is may =
        let first : EachOf May t.body = All-head FromBody t ts may in
        let given = outcome_carried place L t.body is first in
        let later : fold_replies lot plan (place + 1) ts (ledger_after lot plan place t (changed L))
        ≡ fold_replies lot plan (place + 1) ts (ledger_after lot plan place t L) =
        ap (fold_replies lot plan (place + 1) ts) (body_carried place L t.body is first)
        ∙ replies_carried (place + 1) ts (ledger_after lot plan place t L) (comes_body place L t.body is first)
        (All-tail FromBody t ts may) in
        let reply : reply_to lot plan place t (changed L) ≡ reply_to lot plan place t L =
        λ i. record { echo = t.echo; outcome = given i } in
        λ i. reply i ∷ later i

    pub fold_carried : (place : ℕ) (ts : List Transmission) (L : Ledger) → Comes L → EachTransaction May ts
        → fold_ledger lot plan place ts (changed L) ≡ changed (fold_ledger lot plan place ts L)
    fold_carried place [] L is may = refl
    fold_carried place (t ∷ ts) L is may =
        let first : EachOf May t.body = All-head FromBody t ts may in
        ap (fold_ledger lot plan (place + 1) ts) (body_carried place L t.body is first)
        ∙ fold_carried (place + 1) ts (ledger_after lot plan place t L) (comes_body place L t.body is first)
        (All-tail FromBody t ts may)

    pub comes_fold : (place : ℕ) (ts : List Transmission) (L : Ledger) → Comes L → EachTransaction May ts
        → Comes (fold_ledger lot plan place ts L)
    comes_fold place [] L is may = is
    comes_fold place (t ∷ ts) L is may =
        comes_fold (place + 1) ts (ledger_after lot plan place t L)
        (comes_body place L t.body is (All-head FromBody t ts may)) (All-tail FromBody t ts may)
