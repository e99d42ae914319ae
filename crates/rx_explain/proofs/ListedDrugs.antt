-- The drug by which a billing is paid is the plan's.
use Rattle.std.proofs.Common.{◌≡◌, ◌∙◌, Some, sym, ap}
use Rattle.rx_d0_values.specs.declared.transaction.Transaction.{Transaction}
use Rattle.rx_d0_values.specs.declared.transaction.Transaction.TheVariants.{Bill, Reverse, Faulty}
use Rattle.rx_ledger.specs.declared.decision.Decision.{Decision}
use Rattle.rx_ledger.specs.declared.decision.Decision.TheVariants as decision
use Rattle.rx_ledger.specs.declared.decision.Payment.{Payment}
use Rattle.rx_ledger.specs.Decisions.{Asked, decision_of}
use Rattle.rx_ledger.specs.Ledger.{Ledger}
use Rattle.rx_ledger.proofs.PaidShape.{payable}
use Rattle.rx_explain.specs.Workings.{IsListed}

pub listed_drug : (a : Asked) (L : Ledger) (t : Transaction) (d : Decision) → d ≡ decision_of a L t → IsListed a.plan t d
listed_drug a L (Bill b) (decision.Payable p) is =
    let paid = payable a L b p (sym is) in
    paid.listed ∙ ap Some (sym (ap (λ (q : Payment). q.drug) paid.is))
listed_drug a L (Bill b) other is = tt
listed_drug a L (Reverse v) d is = tt
listed_drug a L (Faulty f) d is = tt
