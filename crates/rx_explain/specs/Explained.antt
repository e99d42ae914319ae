-- Meaning: what an explanation of a transaction says.
use Rattle.std.specs.Prelude.{◌≡◌, List, map, Option, Some, None}
use Rattle.std.specs.Option.{option_map}
use Rattle.rx_fields.specs.Numbered.{LotParts}
use Rattle.rx_d0_values.specs.declared.transmission.Transmission.{Transmission}
use Rattle.rx_ledger.specs.Answers.{answer}
use Rattle.rx_ledger.specs.Decisions.{decision_of}
use Rattle.rx_ledger.specs.Fold.{asked, authorization, fold_replies}
use Rattle.rx_ledger.specs.Ledger.{Ledger}
use Rattle.rx_ledger.specs.Plan.{Plan}
use Rattle.rx_explain.specs.declared.at.At.{At}
use Rattle.rx_explain.specs.declared.events.Event.{Event}
use Rattle.rx_explain.specs.declared.explanation.Explanation.{Explanation}
use Rattle.rx_explain.specs.declared.facts.Facts.{Facts}
use Rattle.rx_explain.specs.Before.{ledger_before}
use Rattle.rx_explain.specs.Opens.{IsOpenFrom}
use Rattle.rx_explain.specs.Shown.{counted_for, row_in}
use Rattle.rx_explain.specs.Spots.{Spot}
use Rattle.rx_explain.specs.Traces.{events_of, traced}
use Rattle.rx_explain.specs.Workings.{workings_for}

-- place, pharmacy, date and number; the decision on the ledger and its answer; the rows that mattered; the first date, from
-- its own on, on which it isn't too soon; and the steps to the amounts
pub record AreFacts (lot : LotParts) (plan : Plan) (L : Ledger) (at : At) (s : Spot) (x : Facts) : Type 0 where
  pub at_is : x.at ≡ at
  pub provider_is : x.provider ≡ s.heard.provider
  pub date_is : x.date ≡ s.heard.date
  pub number_is : x.number ≡ authorization lot at.place at.nth
  pub transaction_is : x.transaction ≡ s.transaction
  pub decision_is : x.decision ≡ decision_of (asked lot plan at.place s.heard at.nth) L s.transaction
  pub answer_is : x.answer ≡ answer (asked lot plan at.place s.heard at.nth) L s.transaction
  pub standing_is : x.standing ≡ row_in plan.figures s.heard.provider s.heard.date L s.transaction x.decision
  pub open_from_is : IsOpenFrom plan.figures s.heard.date L s.transaction x.decision x.open_from
  pub workings_are : x.workings ≡ workings_for plan.figures s.transaction x.decision
  pub counted_are : x.counted.items ≡ counted_for plan.figures.period L s.transaction x.decision

-- the same, each row with its source and its end among these events
pub record IsOnLedger (lot : LotParts) (plan : Plan) (L : Ledger) (events : List Event) (at : At) (s : Spot) (x : Explanation)
    : Type 0 where
  pub at_is : x.at ≡ at
  pub provider_is : x.provider ≡ s.heard.provider
  pub date_is : x.date ≡ s.heard.date
  pub number_is : x.number ≡ authorization lot at.place at.nth
  pub transaction_is : x.transaction ≡ s.transaction
  pub decision_is : x.decision ≡ decision_of (asked lot plan at.place s.heard at.nth) L s.transaction
  pub answer_is : x.answer ≡ answer (asked lot plan at.place s.heard at.nth) L s.transaction
  pub standing_is : x.standing
      ≡ option_map (traced events at) (row_in plan.figures s.heard.provider s.heard.date L s.transaction x.decision)
  pub open_from_is : IsOpenFrom plan.figures s.heard.date L s.transaction x.decision x.open_from
  pub workings_are : x.workings ≡ workings_for plan.figures s.transaction x.decision
  pub counted_are : x.counted.items ≡ map (traced events at) (counted_for plan.figures.period L s.transaction x.decision)

module _ (lot : LotParts) (plan : Plan) (ts : List Transmission) (opening : Ledger) where
  -- on the ledger before the transaction; there are facts exactly where there is a transaction
  abbrev pub AreFactsAt : At → Option Spot → Option Facts → Type 0
  AreFactsAt at None None = Unit {0}
  AreFactsAt at None (Some x) = ⊥
  AreFactsAt at (Some s) None = ⊥
  AreFactsAt at (Some s) (Some x) = AreFacts lot plan (ledger_before lot plan ts opening at.place s.heard at.nth) at s x

  -- an explanation as well, among these events
  abbrev pub IsAmong : List Event → At → Option Spot → Option Explanation → Type 0
  IsAmong events at None None = Unit {0}
  IsAmong events at None (Some x) = ⊥
  IsAmong events at (Some s) None = ⊥
  IsAmong events at (Some s) (Some x) =
      IsOnLedger lot plan (ledger_before lot plan ts opening at.place s.heard at.nth) events at s x

  -- the same among what the batch changed
  abbrev pub IsExplained : At → Option Spot → Option Explanation → Type 0
  IsExplained at = IsAmong (events_of 1 ts (fold_replies lot plan 1 ts opening)) at
