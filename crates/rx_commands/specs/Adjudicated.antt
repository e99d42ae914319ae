-- Meaning: a batch that is adjudicated, and its transactions explained.
use Rattle.std.specs.Prelude.{◌≡◌, ◌≤◌, List, Option, length}
use Rattle.std.specs.List.{AllZip}
use Rattle.rx_fields.specs.declared.limits.TheConstants.{MOST_DETAILS}
use Rattle.rx_explain.specs.Explained.{IsExplained}
use Rattle.rx_explain.specs.Spots.{spot_at}
use Rattle.rx_explain.specs.declared.at.At.{At}
use Rattle.rx_explain.specs.declared.explanation.Explanation.{Explanation}
use Rattle.rx_ledger.specs.Fold.{fold_replies}
use Rattle.rx_commands.specs.declared.replay.batch.Adjudicated.{Adjudicated}

-- the replies are those of so few records, adjudicated one after another on the opening books
pub record IsAdjudicated (b : Adjudicated) : Type 0 where
  pub few : length b.asked.items ≤ MOST_DETAILS
  pub replies_are : b.replies.items ≡ fold_replies b.lot b.sheet 1 b.asked.items b.opening.ledger

-- of each of these places, in order, the explanation of the transaction there
abbrev pub AreExplained : Adjudicated → List At → List (Option Explanation) → Type 0
AreExplained b places explanations =
    AllZip (λ at x. IsExplained b.lot b.sheet b.asked.items b.opening.ledger at (spot_at b.asked.items at) x) places
    explanations
