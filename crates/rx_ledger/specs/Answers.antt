-- Meaning: the answer to one transaction, by its decision, and the ledger after it.
pub use Rattle.rx_ledger.specs.Decisions.{Asked, is_same_claim, is_too_soon, key_of, priced, used_by}
use Rattle.std.specs.Prelude.{ℕ, [], ◌∷◌, Some}
use Rattle.rx_fields.specs.Order.{key_cmp}
use Rattle.rx_fields.specs.declared.code.Code.{Code}
use Rattle.rx_fields.specs.declared.code.Code.TheVariants as code
use Rattle.rx_sorted.specs.Ascending.{put, without}
use Rattle.rx_d0_values.specs.Priced.{total_paid}
use Rattle.rx_d0_values.specs.declared.bill.BillParts.{BillParts}
use Rattle.rx_d0_values.specs.declared.pricing.Amounts.{Amounts}
use Rattle.rx_d0_values.specs.declared.reply.Answer.{Answer}
use Rattle.rx_d0_values.specs.declared.reply.Answer.TheVariants.{Paid, Twice, Approved, Refused}
use Rattle.rx_d0_values.specs.declared.transaction.Faulty.{Faulty as Unreadable}
use Rattle.rx_d0_values.specs.declared.transaction.Reversal.{Reversal}
use Rattle.rx_d0_values.specs.declared.transaction.Transaction.{Transaction}
use Rattle.rx_d0_values.specs.declared.transaction.Transaction.TheVariants.{Bill, Reverse, Faulty}
use Rattle.rx_ledger.specs.declared.decision.Decision.{Decision}
use Rattle.rx_ledger.specs.declared.decision.Decision.TheVariants as row
use Rattle.rx_ledger.specs.declared.row.Row.{Row}
use Rattle.rx_ledger.specs.Decisions.{decision_of}
use Rattle.rx_ledger.specs.Ledger.{Ledger}
use Rattle.rx_ledger.specs.Rows.{row_key}

-- ---- the answer

abbrev pub refused : Code → ℕ → Answer
refused c reference = Refused (record { codes = c ∷ []; reference = Some reference })

-- a transaction that could not be read is answered with its own codes and reference
abbrev pub unread : Unreadable → Answer
unread f = Refused (record { codes = f.codes; reference = f.reference })

-- the answer that a decision gives, to a transaction with this number and reference
abbrev pub answer_by : ℕ → ℕ → Decision → Answer
answer_by number reference row.NoFamily = refused code.UnknownCardholder reference
answer_by number reference row.NoPerson = refused code.Person reference
answer_by number reference (row.SameStands r) =
    Twice (record { number = r.number; reference = reference; pricing = r.pricing })
answer_by number reference (row.OtherStands r) = refused code.DuplicatePaid reference
answer_by number reference row.BeforePeriod = refused code.TooOld reference
answer_by number reference row.AfterCreation = refused code.PostDated reference
answer_by number reference (row.NotCovered m) = refused code.NotCovered reference
answer_by number reference row.NotListed = refused code.ProductNotCovered reference
answer_by number reference row.TooManyDays = refused code.PlanLimits reference
answer_by number reference row.TooSoon = refused code.RefillTooSoon reference
answer_by number reference (row.Payable p) =
    Paid (record { number = number; reference = reference; pricing = p.pricing })
answer_by number reference row.NoneStands = refused code.ReversalNotProcessed reference
answer_by number reference (row.OtherProduct r) = refused code.ReversalNotProcessed reference
answer_by number reference (row.TakenBack r) =
    Approved (record { number = number; reference = reference; total_paid = total_paid r.pricing })
answer_by number reference (row.Unread f) = unread f

-- the answer that it gives to a transaction of this number
abbrev pub answer_to : ℕ → Transaction → Decision → Answer
answer_to number (Bill b) d = answer_by number b.reference d
answer_to number (Reverse v) d = answer_by number v.reference d
answer_to number (Faulty f) d = unread f

abbrev pub answer : Asked → Ledger → Transaction → Answer
answer a L t = answer_to a.number t (decision_of a L t)

-- ---- the ledger after it

-- the row of a billing that is paid
abbrev pub paid_row : Asked → BillParts → ℕ → Amounts → Row
paid_row a b number pricing =
    record {
      key = key_of a b.reference;
      family = b.family;
      person = b.person;
      product = b.product;
      quantity = b.quantity;
      days = b.days;
      pricing = pricing;
      number = number;
    }

-- a paid claim stands from now on, a reversed one no longer; every other answer leaves the ledger
abbrev pub after_bill : Asked → Ledger → BillParts → Answer → Ledger
after_bill a L b (Paid p) = record L { rows = put key_cmp row_key L.rows (paid_row a b p.number p.pricing) }
after_bill a L b (Twice p) = L
after_bill a L b (Approved p) = L
after_bill a L b (Refused p) = L

abbrev pub after_reversal : Asked → Ledger → Reversal → Answer → Ledger
after_reversal a L v (Paid p) = L
after_reversal a L v (Twice p) = L
after_reversal a L v (Approved p) = record L { rows = without key_cmp row_key L.rows (key_of a v.reference) }
after_reversal a L v (Refused p) = L

abbrev pub after : Asked → Ledger → Transaction → Answer → Ledger
after a L (Bill b) given = after_bill a L b given
after a L (Reverse v) given = after_reversal a L v given
after a L (Faulty f) given = L
