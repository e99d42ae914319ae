-- Meaning: one record, and the records of a batch one after another in file order.
use Rattle.std.specs.Prelude.{ℕ, ◌+◌, ◌*◌, List, [], ◌∷◌}
use Rattle.rx_fields.specs.Numbered.{LotParts}
use Rattle.rx_fields.specs.declared.limits.TheConstants.{NUMBERS_OF_A_BATCH}
use Rattle.rx_d0_values.specs.declared.reply.Answer.{Answer}
use Rattle.rx_d0_values.specs.declared.reply.Outcome.{Outcome}
use Rattle.rx_d0_values.specs.declared.reply.Outcome.TheVariants as outcome
use Rattle.rx_d0_values.specs.declared.reply.Reply.{Reply}
use Rattle.rx_d0_values.specs.declared.transaction.Transaction.{Transaction}
use Rattle.rx_d0_values.specs.declared.transmission.Body.{Body}
use Rattle.rx_d0_values.specs.declared.transmission.Body.TheVariants.{Rejected, Heard}
use Rattle.rx_d0_values.specs.declared.transmission.Heard.{Heard as HeardRecord}
use Rattle.rx_d0_values.specs.declared.transmission.Transmission.{Transmission}
use Rattle.rx_ledger.specs.Answers.{Asked, answer, after}
use Rattle.rx_ledger.specs.Ledger.{Ledger}
use Rattle.rx_ledger.specs.Plan.{Plan}

-- seven digits of the batch number, seven of the place, one of the transaction's place in its record
abbrev pub authorization : LotParts → ℕ → ℕ → ℕ
authorization lot place nth = lot.number * NUMBERS_OF_A_BATCH + place * 10 + nth

-- what the nth transaction of the record at a place is asked under
abbrev pub asked : LotParts → Plan → ℕ → HeardRecord → ℕ → Asked
asked lot plan place h nth =
    record { lot = lot; plan = plan; provider = h.provider; date = h.date; number = authorization lot place nth }

-- the transactions one after another, each on the ledger after the one before; the first of them is the nth
module _ (lot : LotParts) (plan : Plan) (place : ℕ) (h : HeardRecord) where
  abbrev pub answers_from : ℕ → List Transaction → Ledger → List Answer
  answers_from nth [] L = []
  answers_from nth (t ∷ ts) L =
      let a = asked lot plan place h nth in
      answer a L t ∷ answers_from (nth + 1) ts (after a L t (answer a L t))

  abbrev pub ledger_from : ℕ → List Transaction → Ledger → Ledger
  ledger_from nth [] L = L
  ledger_from nth (t ∷ ts) L =
      let a = asked lot plan place h nth in ledger_from (nth + 1) ts (after a L t (answer a L t))

-- the record at a place: a rejected header gives its codes and leaves the ledger
abbrev pub outcome_of : LotParts → Plan → ℕ → Ledger → Body → Outcome
outcome_of lot plan place L (Rejected r) = outcome.Rejected r
outcome_of lot plan place L (Heard h) = outcome.Heard (answers_from lot plan place h 1 h.list L)

abbrev pub reply_to : LotParts → Plan → ℕ → Transmission → Ledger → Reply
reply_to lot plan place t L = record { echo = t.echo; outcome = outcome_of lot plan place L t.body }

abbrev pub ledger_of_body : LotParts → Plan → ℕ → Ledger → Body → Ledger
ledger_of_body lot plan place L (Rejected r) = L
ledger_of_body lot plan place L (Heard h) = ledger_from lot plan place h 1 h.list L

abbrev pub ledger_after : LotParts → Plan → ℕ → Transmission → Ledger → Ledger
ledger_after lot plan place t L = ledger_of_body lot plan place L t.body

-- the records one after another in file order, the first of them at this place
module _ (lot : LotParts) (plan : Plan) where
  abbrev pub fold_ledger : ℕ → List Transmission → Ledger → Ledger
  fold_ledger place [] L = L
  fold_ledger place (t ∷ ts) L = fold_ledger (place + 1) ts (ledger_after lot plan place t L)

  abbrev pub fold_replies : ℕ → List Transmission → Ledger → List Reply
  fold_replies place [] L = []
  fold_replies place (t ∷ ts) L =
      reply_to lot plan place t L ∷ fold_replies (place + 1) ts (ledger_after lot plan place t L)
