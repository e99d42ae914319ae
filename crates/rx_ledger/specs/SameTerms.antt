-- Meaning: terms under which a record is adjudicated as under the whole sheet.
use Rattle.std.specs.Prelude.{◌≡◌, ℕ}
use Rattle.std.specs.List.{All}
use Rattle.rx_fields.specs.Numbered.{LotParts}
use Rattle.rx_d0_values.specs.declared.transmission.Transmission.{Transmission}
use Rattle.rx_ledger.specs.declared.occasion.Occasion.{Occasion}
use Rattle.rx_ledger.specs.Claims.{asked_on}
use Rattle.rx_ledger.specs.Decisions.{decision_of}
use Rattle.rx_ledger.specs.Fold.{ledger_after, reply_to}
use Rattle.rx_ledger.specs.Ledger.{Ledger}
use Rattle.rx_ledger.specs.Places.{transactions_of}
use Rattle.rx_ledger.specs.Plan.{Plan}
use Rattle.rx_ledger.specs.TermList.{TermParts, drugs_in, plan_of}

-- the terms have the lot and the sheet's figures, and the record's decisions, reply and ledger are those of the whole sheet
pub record IsTermsOf (lot : LotParts) (plan : Plan) (t : Transmission) (terms : TermParts) : Type 0 where
  pub same_lot : terms.lot ≡ lot
  pub same_figures : terms.figures ≡ plan.figures
  pub same_decisions : (o : Occasion) (L : Ledger) →
      All (λ x. decision_of (asked_on o (drugs_in terms.places)) L x ≡ decision_of (asked_on o plan.drugs) L x)
      (transactions_of t.body)
  pub same_reply : (place : ℕ) (L : Ledger) → reply_to terms.lot (plan_of terms) place t L ≡ reply_to lot plan place t L
  pub same_ledger : (place : ℕ) (L : Ledger) →
      ledger_after terms.lot (plan_of terms) place t L ≡ ledger_after lot plan place t L
