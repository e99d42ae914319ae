-- A record is answered alike under two plans with the same figures that say the same of the products which it bills.
use Rattle.std.proofs.Common.{◌≡◌, ℕ, ◌+◌, List, [], ◌∷◌, refl, ap, ◌∙◌}
use Rattle.std.specs.List.{All}
use Rattle.std.proofs.lemmas.List.Elements.{All-cons, All-nil}
use Rattle.rx_fields.specs.Calendar.{Civil}
use Rattle.rx_fields.specs.Numbered.{LotParts}
use Rattle.rx_d0_values.specs.declared.bill.BillParts.{BillParts}
use Rattle.rx_d0_values.specs.declared.reply.Answer.{Answer}
use Rattle.rx_d0_values.specs.declared.reply.Answer.TheVariants.{Paid, Twice, Approved, Refused}
use Rattle.rx_d0_values.specs.declared.reply.Outcome.TheVariants as outcome
use Rattle.rx_d0_values.specs.declared.transaction.Reversal.{Reversal}
use Rattle.rx_d0_values.specs.declared.transaction.Transaction.{Transaction}
use Rattle.rx_d0_values.specs.declared.transaction.Transaction.TheVariants.{Bill, Reverse, Faulty}
use Rattle.rx_d0_values.specs.declared.transmission.Body.{Body}
use Rattle.rx_d0_values.specs.declared.transmission.Body.TheVariants.{Rejected, Heard}
use Rattle.rx_d0_values.specs.declared.transmission.Heard.{Heard as HeardRecord}
use Rattle.rx_ledger.specs.declared.figures.Figures.{Figures}
use Rattle.rx_ledger.specs.declared.occasion.Occasion.{Occasion}
use Rattle.rx_ledger.specs.declared.sheet.Listed.{Listed}
use Rattle.rx_ledger.specs.Answers.{after, after_bill, after_reversal, answer, answer_to}
use Rattle.rx_ledger.specs.Claims.{asked_on}
use Rattle.rx_ledger.specs.Decisions.{Asked, billing, decision_of}
use Rattle.rx_ledger.specs.Fold.{answers_from, asked, authorization, ledger_from, ledger_of_body, outcome_of}
use Rattle.rx_ledger.specs.Ledger.{Ledger}
use Rattle.rx_ledger.specs.Places.{transactions_of}
use Rattle.rx_ledger.specs.Plan.{Plan, drug_of}

-- the plans say the same of the product that the transaction bills
abbrev pub SaysAlike : Plan → Plan → Transaction → Type 0
SaysAlike p q (Bill b) = drug_of p b.product ≡ drug_of q b.product
SaysAlike p q (Reverse v) = Unit {0}
SaysAlike p q (Faulty f) = Unit {0}

-- of each of the transactions
abbrev pub SayAlike : Plan → Plan → List Transaction → Type 0
SayAlike p q [] = Unit {0}
SayAlike p q (t ∷ ts) = SaysAlike p q t × SayAlike p q ts

-- a plan of these figures and drugs
abbrev pub plan_with : Figures → List Listed → Plan
plan_with figures drugs = record { figures = figures; drugs = drugs }

-- ---- one transaction

module _
    (figures : Figures) (ds es : List Listed) (lot : LotParts) (provider : List ℕ) (date : Civil) (number : ℕ) where
  abbrev one : Asked
  one = record { lot = lot; plan = plan_with figures ds; provider = provider; date = date; number = number }

  abbrev other : Asked
  other = record { lot = lot; plan = plan_with figures es; provider = provider; date = date; number = number }

  billing_alike : (b : BillParts) (L : Ledger) → drug_of one.plan b.product ≡ drug_of other.plan b.product
      → billing one L b ≡ billing other L b
  billing_alike b L same = rw same refl

  pub decision_alike : (L : Ledger) (t : Transaction) → SaysAlike one.plan other.plan t
      → decision_of one L t ≡ decision_of other L t
  decision_alike L (Bill b) same = billing_alike b L same
  decision_alike L (Reverse v) same = refl
  decision_alike L (Faulty f) same = refl

  pub answer_alike : (L : Ledger) (t : Transaction) → SaysAlike one.plan other.plan t
      → answer one L t ≡ answer other L t
  answer_alike L t same = ap (answer_to number t) (decision_alike L t same)

  after_bill_alike : (L : Ledger) (b : BillParts) (given : Answer)
      → after_bill one L b given ≡ after_bill other L b given
  after_bill_alike L b (Paid p) = refl
  after_bill_alike L b (Twice p) = refl
  after_bill_alike L b (Approved p) = refl
  after_bill_alike L b (Refused p) = refl

  after_reversal_alike : (L : Ledger) (v : Reversal) (given : Answer)
      → after_reversal one L v given ≡ after_reversal other L v given
  after_reversal_alike L v (Paid p) = refl
  after_reversal_alike L v (Twice p) = refl
  after_reversal_alike L v (Approved p) = refl
  after_reversal_alike L v (Refused p) = refl

  pub after_alike : (L : Ledger) (t : Transaction) (given : Answer) → after one L t given ≡ after other L t given
  after_alike L (Bill b) given = after_bill_alike L b given
  after_alike L (Reverse v) given = after_reversal_alike L v given
  after_alike L (Faulty f) given = refl

-- ---- one record

module _ (figures : Figures) (ds es : List Listed) (lot : LotParts) (place : ℕ) (h : HeardRecord) where
  abbrev p : Plan
  p = plan_with figures ds

  abbrev q : Plan
  q = plan_with figures es

  first_alike : (nth : ℕ) (t : Transaction) (L : Ledger) → SaysAlike p q t
      → answer (asked lot p place h nth) L t ≡ answer (asked lot q place h nth) L t
  first_alike nth t L same = answer_alike figures ds es lot h.provider h.date (authorization lot place nth) L t same

  next_alike : (nth : ℕ) (t : Transaction) (L : Ledger) → SaysAlike p q t →
      after (asked lot p place h nth) L t (answer (asked lot p place h nth) L t)
      ≡ after (asked lot q place h nth) L t (answer (asked lot q place h nth) L t)
  next_alike nth t L same =
      after_alike figures ds es lot h.provider h.date (authorization lot place nth) L t
      (answer (asked lot p place h nth) L t)
      ∙ ap (after (asked lot q place h nth) L t) (first_alike nth t L same)

  pub answers_alike : (ts : List Transaction) (nth : ℕ) (L : Ledger) → SayAlike p q ts
      → answers_from lot p place h nth ts L ≡ answers_from lot q place h nth ts L
  answers_alike [] nth L same = refl
  answers_alike (t ∷ ts) nth L same =
      let a : Answer = answer (asked lot p place h nth) L t in
      let b : Answer = answer (asked lot q place h nth) L t in
      let after_a : Ledger = after (asked lot p place h nth) L t a in
      let rest : answers_from lot p place h (nth + 1) ts after_a
      ≡ answers_from lot q place h (nth + 1) ts (after (asked lot q place h nth) L t b) =
      answers_alike ts (nth + 1) after_a same.1
      ∙ ap (answers_from lot q place h (nth + 1) ts) (next_alike nth t L same.0) in
      ap (λ (x : Answer). x ∷ answers_from lot p place h (nth + 1) ts after_a) (first_alike nth t L same.0)
      ∙ ap (λ (xs : List Answer). b ∷ xs) rest

  pub ledger_alike : (ts : List Transaction) (nth : ℕ) (L : Ledger) → SayAlike p q ts
      → ledger_from lot p place h nth ts L ≡ ledger_from lot q place h nth ts L
  ledger_alike [] nth L same = refl
  ledger_alike (t ∷ ts) nth L same =
      let after_a : Ledger = after (asked lot p place h nth) L t (answer (asked lot p place h nth) L t) in
      ledger_alike ts (nth + 1) after_a same.1 ∙ ap (ledger_from lot q place h (nth + 1) ts) (next_alike nth t L same.0)

-- ---- the decisions on a list of transactions

module _ (p : Plan) (ds : List Listed) (o : Occasion) (L : Ledger) where
  abbrev IsDecidedAlike : Transaction → Type 0
  IsDecidedAlike t = decision_of (asked_on o ds) L t ≡ decision_of (asked_on o p.drugs) L t

  pub decisions_alike : (ts : List Transaction) → SayAlike (plan_with p.figures ds) p ts → All IsDecidedAlike ts
  decisions_alike [] same = All-nil IsDecidedAlike
  decisions_alike (t ∷ ts) same =
      All-cons IsDecidedAlike t ts (decision_alike o.figures ds p.drugs o.lot o.provider o.date o.number L t same.0)
      (decisions_alike ts same.1)

-- ---- a header that is accepted or rejected

module _ (figures : Figures) (ds es : List Listed) (lot : LotParts) (place : ℕ) (L : Ledger) where
  pub outcome_alike : (body : Body) → SayAlike (plan_with figures ds) (plan_with figures es) (transactions_of body)
      → outcome_of lot (plan_with figures ds) place L body ≡ outcome_of lot (plan_with figures es) place L body
  outcome_alike (Rejected r) same = refl
  outcome_alike (Heard h) same = ap outcome.Heard (answers_alike figures ds es lot place h h.list 1 L same)

  pub body_alike : (body : Body) → SayAlike (plan_with figures ds) (plan_with figures es) (transactions_of body)
      → ledger_of_body lot (plan_with figures ds) place L body
      ≡ ledger_of_body lot (plan_with figures es) place L body
  body_alike (Rejected r) same = refl
  body_alike (Heard h) same = ledger_alike figures ds es lot place h h.list 1 L same
