-- Meaning: the transactions of a record, and what decided them.
use Rattle.std.specs.Prelude.{ℕ, ◌-◌, List, Option, Some, None, take}
use Rattle.rx_fields.specs.Numbered.{LotParts}
use Rattle.rx_d0_values.specs.declared.transaction.Transaction.{Transaction}
use Rattle.rx_d0_values.specs.declared.transmission.Heard.{Heard}
use Rattle.rx_explain.specs.declared.at.At.{At}
use Rattle.rx_explain.specs.declared.events.Event.{Event}
use Rattle.rx_explain.specs.declared.explanation.Explanation.{Explanation}
use Rattle.rx_explain.specs.declared.facts.Facts.{Facts}
use Rattle.rx_explain.specs.Explained.{AreFacts, AreFactsAt, IsAmong}
use Rattle.rx_explain.specs.Spots.{item, spot_at}
use Rattle.rx_ledger.specs.Fold.{ledger_from}
use Rattle.rx_ledger.specs.Ledger.{Ledger}
use Rattle.rx_ledger.specs.Plan.{Plan}
use Rattle.rx_commands.specs.declared.replay.batch.Batch.{Batch}
use Rattle.rx_commands.specs.declared.replay.explaining.Pass.{Pass}
use Rattle.rx_commands.specs.Courses.{IsCourse}

-- what decided the transaction at a place of a batch
abbrev pub IsDecided : Batch → At → Option Facts → Type 0
IsDecided b at = AreFactsAt b.lot b.sheet.now b.asked.now b.opening.now.ledger at (spot_at b.asked.now at)

-- what decided each transaction of the record at a place
abbrev pub AreDecided : Batch → ℕ → List Facts → Type 0
AreDecided b place xs = (nth : ℕ) → IsDecided b (record { place = place; nth = nth }) (item xs nth)

-- a pass over the batch: its first records are done, and it is known what decided the transactions of the one at its place
pub record IsPass (b : Batch) (p : Pass) : Type 0 where
  pub course : IsCourse b p.course
  pub latest : AreDecided b p.place p.latest.items

-- of the transaction at a place, its explanation among these events
abbrev pub IsAt : Batch → List Event → At → Option Explanation → Type 0
IsAt b events at = IsAmong b.lot b.sheet.now b.asked.now b.opening.now.ledger events at (spot_at b.asked.now at)

module _ (lot : LotParts) (plan : Plan) (place : ℕ) (h : Heard) (L : Ledger) where
  -- of the nth transaction of a record that is adjudicated on a ledger
  abbrev pub IsOf : ℕ → Option Transaction → Option Facts → Type 0
  IsOf nth None None = Unit {0}
  IsOf nth None (Some x) = ⊥
  IsOf nth (Some t) None = ⊥
  IsOf nth (Some t) (Some x) =
      AreFacts lot plan (ledger_from lot plan place h 1 (take (nth - 1) h.list) L)
      (record { place = place; nth = nth }) (record { heard = h; transaction = t }) x

  -- of each of its transactions
  abbrev pub AreOf : List Facts → Type 0
  AreOf xs = (nth : ℕ) → IsOf nth (item h.list nth) (item xs nth)
