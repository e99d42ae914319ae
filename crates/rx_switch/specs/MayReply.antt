-- Meaning: whether a reply may be one to a record, as far as is known without books.
use Rattle.std.specs.Prelude.{◌≡◌, ℕ, ◌+◌, List, [], ◌∷◌, Some}
use Rattle.rx_d0_values.specs.declared.reply.Answer.{Answer}
use Rattle.rx_d0_values.specs.declared.reply.Answer.TheVariants as answer
use Rattle.rx_d0_values.specs.declared.reply.Outcome.{Outcome}
use Rattle.rx_d0_values.specs.declared.reply.Outcome.TheVariants as outcome
use Rattle.rx_d0_values.specs.declared.reply.Reply.{Reply}
use Rattle.rx_d0_values.specs.declared.transaction.Transaction.{Transaction}
use Rattle.rx_d0_values.specs.declared.transaction.Transaction.TheVariants as asked
use Rattle.rx_d0_values.specs.declared.transmission.Body.{Body}
use Rattle.rx_d0_values.specs.declared.transmission.Body.TheVariants as body
use Rattle.rx_d0_values.specs.declared.transmission.Transmission.{Transmission}
use Rattle.rx_fields.specs.Numbered.{LotParts}
use Rattle.rx_ledger.specs.Fold.{authorization}

-- an answer that a transaction may get whose authorization number is this: it has the transaction's reference, and the number
-- where it pays or takes back; a duplicate has an earlier claim's; what can't be read has only its own refusal
abbrev pub MayAnswer : ℕ → Transaction → Answer → Type 0
MayAnswer number (asked.Bill b) (answer.Paid p) = (p.number ≡ number) × (p.reference ≡ b.reference)
MayAnswer number (asked.Bill b) (answer.Twice p) = p.reference ≡ b.reference
MayAnswer number (asked.Bill b) (answer.Approved a) = ⊥
MayAnswer number (asked.Bill b) (answer.Refused r) = r.reference ≡ Some b.reference
MayAnswer number (asked.Reverse v) (answer.Paid p) = ⊥
MayAnswer number (asked.Reverse v) (answer.Twice p) = ⊥
MayAnswer number (asked.Reverse v) (answer.Approved a) = (a.number ≡ number) × (a.reference ≡ v.reference)
MayAnswer number (asked.Reverse v) (answer.Refused r) = r.reference ≡ Some v.reference
MayAnswer number (asked.Faulty f) (answer.Paid p) = ⊥
MayAnswer number (asked.Faulty f) (answer.Twice p) = ⊥
MayAnswer number (asked.Faulty f) (answer.Approved a) = ⊥
MayAnswer number (asked.Faulty f) (answer.Refused r) = (r.codes ≡ f.codes) × (r.reference ≡ f.reference)

-- one answer to each transaction; this is the first one's number
abbrev pub MayAnswerEach : ℕ → List Transaction → List Answer → Type 0
MayAnswerEach number [] [] = Unit {0}
MayAnswerEach number [] (a ∷ answers) = ⊥
MayAnswerEach number (t ∷ ts) [] = ⊥
MayAnswerEach number (t ∷ ts) (a ∷ answers) = MayAnswer number t a × MayAnswerEach (number + 1) ts answers

abbrev pub MayBeOutcome : LotParts → ℕ → Body → Outcome → Type 0
MayBeOutcome lot place (body.Rejected r) (outcome.Rejected s) = s ≡ r
MayBeOutcome lot place (body.Rejected r) (outcome.Heard answers) = ⊥
MayBeOutcome lot place (body.Heard h) (outcome.Rejected r) = ⊥
MayBeOutcome lot place (body.Heard h) (outcome.Heard answers) = MayAnswerEach (authorization lot place 1) h.list answers

-- a reply that the record at a place of the lot's batch may get: it repeats the request's header
pub record MayReply (lot : LotParts) (place : ℕ) (t : Transmission) (r : Reply) : Type 0 where
  pub echo : r.echo ≡ t.echo
  pub outcome : MayBeOutcome lot place t.body r.outcome
