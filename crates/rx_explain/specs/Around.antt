-- Meaning: the claims that a transaction is explained among, and the terms under which it is decided.
use Rattle.std.specs.Prelude.{◌≡◌, List}
use Rattle.std.specs.List.{filter}
use Rattle.rx_d0_values.specs.declared.transaction.Transaction.{Transaction}
use Rattle.rx_d0_values.specs.declared.transaction.Transaction.TheVariants.{Bill, Reverse, Faulty}
use Rattle.rx_ledger.specs.declared.occasion.Occasion.{Occasion}
use Rattle.rx_ledger.specs.declared.row.Row.{Row}
use Rattle.rx_ledger.specs.Claims.{asked_on}
use Rattle.rx_ledger.specs.Decisions.{decision_of}
use Rattle.rx_ledger.specs.Ledger.{Ledger, rows_of}
use Rattle.rx_ledger.specs.Plan.{Plan}
use Rattle.rx_ledger.specs.Rows.{claimed_by}
use Rattle.rx_ledger.specs.TermList.{TermParts, drugs_in}

-- those of a billing's family are the ledger's, in its order; of other transactions no family is looked at
abbrev pub HasRows : Ledger → List Row → Transaction → Type 0
HasRows L rows (Bill b) = filter (claimed_by b.family) rows ≡ rows_of L b.family
HasRows L rows (Reverse v) = Unit {0}
HasRows L rows (Faulty f) = Unit {0}

-- the terms have the plan's figures, and decide the transaction as the plan does
pub record AreTermsFor (plan : Plan) (t : Transaction) (terms : TermParts) : Type 0 where
  pub same_figures : terms.figures ≡ plan.figures
  pub same_decision : (o : Occasion) (L : Ledger) →
      decision_of (asked_on o (drugs_in terms.places)) L t ≡ decision_of (asked_on o plan.drugs) L t
