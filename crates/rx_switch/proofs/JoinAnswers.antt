-- What adjudication replies to a record is what the record may get.
use Rattle.std.proofs.Common.{◌≡◌, ℕ, ◌+◌, ◌*◌, List, [], ◌∷◌, refl, subst, arith}
use Rattle.rx_d0_values.specs.declared.bill.BillParts.{BillParts}
use Rattle.rx_d0_values.specs.declared.transaction.Reversal.{Reversal}
use Rattle.rx_d0_values.specs.declared.transaction.Transaction.{Transaction}
use Rattle.rx_d0_values.specs.declared.transaction.Transaction.TheVariants.{Bill, Reverse, Faulty}
use Rattle.rx_d0_values.specs.declared.transmission.Body.{Body}
use Rattle.rx_d0_values.specs.declared.transmission.Body.TheVariants.{Rejected, Heard}
use Rattle.rx_d0_values.specs.declared.transmission.Heard.{Heard as HeardRecord}
use Rattle.rx_d0_values.specs.declared.transmission.Transmission.{Transmission}
use Rattle.rx_fields.specs.Numbered.{LotParts}
use Rattle.rx_fields.specs.declared.limits.TheConstants.{NUMBERS_OF_A_BATCH}
use Rattle.rx_ledger.specs.declared.decision.Decision.{Decision}
use Rattle.rx_ledger.specs.declared.decision.Decision.TheVariants as decision
use Rattle.rx_ledger.specs.Answers.{after, answer, answer_by}
use Rattle.rx_ledger.specs.Decisions.{Asked, billing, reversal}
use Rattle.rx_ledger.specs.Fold.{answers_from, asked, authorization, outcome_of, reply_to}
use Rattle.rx_ledger.specs.Ledger.{Ledger}
use Rattle.rx_ledger.specs.Plan.{Plan}
use Rattle.rx_ledger.proofs.Tabled.{IsOfBilling, IsOfReversal, of-billing, of-reversal}
use Rattle.rx_switch.specs.MayReply.{MayAnswer, MayAnswerEach, MayBeOutcome, MayReply}

-- ---- answers

billing_may : (number : ℕ) (b : BillParts) (d : Decision) → IsOfBilling d
    → MayAnswer number (Bill b) (answer_by number b.reference d)
billing_may number b (decision.Payable p) is = (refl, refl)
billing_may number b (decision.TakenBack r) is = is
billing_may number b (decision.Unread f) is = absurd is
billing_may number b other is = refl

reversal_may : (number : ℕ) (v : Reversal) (d : Decision) → IsOfReversal d
    → MayAnswer number (Reverse v) (answer_by number v.reference d)
reversal_may number v (decision.SameStands r) is = is
reversal_may number v (decision.Payable p) is = is
reversal_may number v (decision.TakenBack r) is = (refl, refl)
reversal_may number v (decision.Unread f) is = absurd is
reversal_may number v other is = refl

answer_may : (a : Asked) (L : Ledger) (t : Transaction) → MayAnswer a.number t (answer a L t)
answer_may a L (Bill b) = billing_may a.number b (billing a L b) (of-billing a L b)
answer_may a L (Reverse v) = reversal_may a.number v (reversal a L v) (of-reversal a L v)
answer_may a L (Faulty f) = (refl, refl)

one_more : (m n : ℕ) → m + (n + 1) ≡ m + n + 1
one_more m n = omega arith

module _ (lot : LotParts) (plan : Plan) (place : ℕ) where
  each_may : (h : HeardRecord) (nth : ℕ) (ts : List Transaction) (L : Ledger)
      → MayAnswerEach (authorization lot place nth) ts (answers_from lot plan place h nth ts L)
  each_may h nth [] L = tt
  each_may h nth (t ∷ ts) L =
      let a = asked lot plan place h nth in
      let later = after a L t (answer a L t) in (
        answer_may a L t,
        subst (λ n. MayAnswerEach n ts (answers_from lot plan place h (nth + 1) ts later))
            (one_more (lot.number * NUMBERS_OF_A_BATCH + place * 10) nth) (each_may h (nth + 1) ts later),
      )

  outcome_may : (L : Ledger) (body : Body) → MayBeOutcome lot place body (outcome_of lot plan place L body)
  outcome_may L (Rejected r) = refl
  outcome_may L (Heard h) = each_may h 1 h.list L

  pub reply_may : (t : Transmission) (L : Ledger) → MayReply lot place t (reply_to lot plan place t L)
  reply_may t L = record { echo = refl; outcome = outcome_may L t.body }
