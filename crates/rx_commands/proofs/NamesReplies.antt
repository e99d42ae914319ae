-- A record that keeps its names is answered alike on a ledger with other names.
use Rattle.std.specs.Prelude.{slice_get}
use Rattle.std.proofs.Common.{◌≡◌, ℕ, ◌+◌, List, [], ◌∷◌, Some, map, take, refl, sym, ap, ◌∙◌}
use Rattle.std.specs.List.{All}
use Rattle.std.proofs.lemmas.List.Elements.{All-take}
use Rattle.rx_fields.specs.Numbered.{LotParts}
use Rattle.rx_d0_values.specs.declared.bill.BillParts.{BillParts}
use Rattle.rx_d0_values.specs.declared.reply.Answer.{Answer}
use Rattle.rx_d0_values.specs.declared.reply.Outcome.TheVariants as outcome
use Rattle.rx_d0_values.specs.declared.reply.Reply.{Reply}
use Rattle.rx_d0_values.specs.declared.transaction.Reversal.{Reversal}
use Rattle.rx_d0_values.specs.declared.transaction.Transaction.{Transaction}
use Rattle.rx_d0_values.specs.declared.transaction.Transaction.TheVariants.{Bill, Reverse, Faulty}
use Rattle.rx_d0_values.specs.declared.transmission.Body.{Body}
use Rattle.rx_d0_values.specs.declared.transmission.Body.TheVariants.{Rejected, Heard}
use Rattle.rx_d0_values.specs.declared.transmission.Heard.{Heard as HeardRecord}
use Rattle.rx_d0_values.specs.declared.transmission.Transmission.{Transmission}
use Rattle.rx_ledger.specs.Answers.{Asked, after, answer, answer_by, unread}
use Rattle.rx_ledger.specs.Decisions.{billing, reversal}
use Rattle.rx_ledger.specs.Fold.{answers_from, asked, fold_ledger, fold_replies, outcome_of, reply_to}
use Rattle.rx_ledger.specs.Ledger.{Ledger}
use Rattle.rx_ledger.specs.Plan.{Plan}
use Rattle.rx_ledger.proofs.Tabled.{IsOfBilling, IsOfReversal, of-billing, of-reversal}
use Rattle.rx_ledger.specs.declared.decision.Decision.{Decision}
use Rattle.rx_ledger.specs.declared.decision.Decision.TheVariants as decision
use Rattle.rx_explain.specs.Names.{AgreesBody, AreNames, Names, bill_named, body_named, faulty_named, heard_named, ledger_named}
use Rattle.rx_explain.specs.Names.{reversal_named}
use Rattle.rx_explain.specs.Names.{transaction_named}
use Rattle.rx_explain.proofs.Laws.{reply_at}
use Rattle.rx_explain.proofs.NamesDecided.{answer_named}
use Rattle.rx_explain.proofs.NamesFolded.{Agree, AreBodies, InOrder, batch-in_order, batch-ledger, bodies-before, record-answers}

-- ---- an answer names the prescription of its transaction

module _ (n : Names) (p : List ℕ) (number reference : ℕ) (same : n.prescription p reference ≡ reference) where
  abbrev Keeps : Decision → Type 0
  Keeps d = answer_named n p (answer_by number reference d) ≡ answer_by number reference d

  billing-keeps : (d : Decision) → IsOfBilling d → Keeps d
  billing-keeps (decision.Unread f) is = absurd is
  billing-keeps other is = ap (λ r. answer_by number r other) same

  reversal-keeps : (d : Decision) → IsOfReversal d → Keeps d
  reversal-keeps (decision.Unread f) is = absurd is
  reversal-keeps other is = ap (λ r. answer_by number r other) same

module _ (n : Names) where
  answer-keeps : (a : Asked) (L : Ledger) (t : Transaction) → transaction_named n a.provider a.date t ≡ t
      → answer_named n a.provider (answer a L t) ≡ answer a L t
  answer-keeps a L (Bill b) kept =
      let bill : bill_named n a.provider b ≡ b = cc in
      billing-keeps n a.provider a.number b.reference (ap (λ (c : BillParts). c.reference) bill) (billing a L b) (of-billing a L b)
  answer-keeps a L (Reverse v) kept =
      let back : reversal_named n a.provider a.date v ≡ v = cc in
      reversal-keeps n a.provider a.number v.reference (ap (λ (w : Reversal). w.reference) back) (reversal a L v) (of-reversal a L v)
  answer-keeps a L (Faulty f) kept = let same : faulty_named n a.provider f ≡ f = cc in ap unread same

  module _ (lot : LotParts) (plan : Plan) (place : ℕ) (h : HeardRecord) where
    answers-keep : (nth : ℕ) (ts : List Transaction) (L : Ledger) → map (transaction_named n h.provider h.date) ts ≡ ts
        → map (answer_named n h.provider) (answers_from lot plan place h nth ts L) ≡ answers_from lot plan place h nth ts L
    answers-keep nth [] L kept = refl
    answers-keep nth (t ∷ ts) L kept =
        let a = asked lot plan place h nth in
        let first : transaction_named n h.provider h.date t ≡ t = cc in
        let rest : map (transaction_named n h.provider h.date) ts ≡ ts = cc in
        let next : Ledger = after a L t (answer a L t) in
        let later : List Answer = answers_from lot plan place h (nth + 1) ts next in
        ap (λ (g : Answer). g ∷ map (answer_named n h.provider) later) (answer-keeps a L t first)
        ∙ ap (λ (gs : List Answer). answer a L t ∷ gs) (answers-keep (nth + 1) ts next rest)

-- ---- one record

module _ (lot : LotParts) (plan : Plan) (n : Names) (are : AreNames n) where
  pub outcome-kept : (place : ℕ) (body : Body) (L : Ledger) → AgreesBody n plan body → InOrder n L → body_named n body ≡ body
      → outcome_of lot plan place (ledger_named n L) body ≡ outcome_of lot plan place L body
  outcome-kept place (Rejected r) L agree is kept = refl
  outcome-kept place (Heard h) L agree is kept =
      let heard : heard_named n h ≡ h = cc in
      ap (λ (g : HeardRecord). outcome.Heard (answers_from lot plan place g 1 g.list (ledger_named n L))) (sym heard)
      ∙ ap outcome.Heard (record-answers lot plan n are place h 1 h.list L agree is)
      ∙ ap outcome.Heard (answers-keep n lot plan place h 1 h.list L (ap (λ (g : HeardRecord). g.list) heard))

  -- ---- in a batch

  -- the record at a place, which is the same in both batches and keeps its names, has the same reply
  pub reply-kept : (ts us : List Transmission) (L : Ledger) (before : ℕ) (t : Transmission) → AreBodies lot plan n are ts us
      → All (Agree lot plan n are) ts → AgreesBody n plan t.body → InOrder n L
      → slice_get ts before ≡ Some t → slice_get us before ≡ Some t → body_named n t.body ≡ t.body
      → slice_get (fold_replies lot plan 1 us (ledger_named n L)) before ≡ slice_get (fold_replies lot plan 1 ts L) before
  reply-kept ts us L before t same agree agrees is here there kept =
      let K : Ledger = fold_ledger lot plan 1 (take before ts) L in
      reply_at lot plan us 1 (ledger_named n L) before t there
      ∙ ap (λ M. Some (reply_to lot plan (1 + before) t M))
      (batch-ledger lot plan n are 1 (take before ts) (take before us) L (bodies-before lot plan n are before ts us same)
      (All-take (Agree lot plan n are) before ts agree) is)
      ∙ ap (λ o. let r : Reply = record { echo = t.echo; outcome = o } in Some r)
      (outcome-kept (1 + before) t.body K agrees
      (batch-in_order lot plan n are 1 (take before ts) L (All-take (Agree lot plan n are) before ts agree) is) kept)
      ∙ sym (reply_at lot plan ts 1 L before t here)
