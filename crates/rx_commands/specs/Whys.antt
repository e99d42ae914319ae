-- Meaning: why the answers of a report's lines were given, as its page has it.
use Rattle.std.specs.Prelude.{◌≡◌, ℕ, List, [], Option, Some, None}
use Rattle.std.specs.List.{AllZip}
use Rattle.rx_batch.specs.declared.detail.Detail.{Detail}
use Rattle.rx_d0_values.specs.declared.transmission.Rejected.{Rejected}
use Rattle.rx_d0_values.specs.declared.transmission.Transmission.{Transmission}
use Rattle.rx_explain.specs.Explained.{IsAmong}
use Rattle.rx_explain.specs.Spots.{spot_at}
use Rattle.rx_explain.specs.Traces.{events_of}
use Rattle.rx_explain.specs.declared.at.At.{At}
use Rattle.rx_explain.specs.declared.events.Event.{Event}
use Rattle.rx_explain.specs.declared.explanation.Explanation.{Explanation}
use Rattle.rx_commands.specs.declared.replay.batch.Adjudicated.{Adjudicated}
use Rattle.rx_explain_text.specs.Rejections.{rejection_words}
use Rattle.rx_explain_text.specs.Texts.{explanation_words}
use Rattle.rx_explain_text.specs.declared.counted.Listing.TheVariants.{Largest}
use Rattle.rx_fields.specs.Numbered.{LotParts}
use Rattle.rx_fields.specs.declared.door.Door.{Door}
use Rattle.rx_ledger.specs.Fold.{fold_replies}
use Rattle.rx_ledger.specs.Ledger.{Ledger}
use Rattle.rx_ledger.specs.Plan.{Plan}
use Rattle.rx_report.specs.declared.line.Line.{Line}
use Rattle.rx_report_text.specs.Whys.{spot_of}
use Rattle.rx_report_text.specs.declared.why.Why.{Why}
use Rattle.rx_commands.specs.Lines.{at_of}
use Rattle.rx_commands.specs.Explaining.{rejected_at, request_at}
use Rattle.rx_commands.specs.Tiers.{SheetTable, tier_of}

-- of a record whose header is rejected, that; of another nothing
abbrev pub header_words : Door → List Detail → ℕ → Option Rejected → List ℕ
header_words door details place None = []
header_words door details place (Some rejected) = rejection_words door place rejected (request_at details place) None

-- of an answer its explanation, with the bytes of its own record and the tier of its own product; of one to a rejected header,
-- which has none, the header's
abbrev pub words_at : LotParts → Plan → SheetTable → List Transmission → List Detail → At → Option Explanation → List ℕ
words_at lot plan tiers asked details at (Some x) =
    explanation_words Largest lot plan.figures x (request_at details at.place) (tier_of tiers x.transaction) None
words_at lot plan tiers asked details at None = header_words plan.figures.door details at.place (rejected_at asked at)

-- of a line: the words of the explanation, among these events, of the transaction at its place
pub record IsWhyAmong (lot : LotParts) (plan : Plan) (tiers : SheetTable) (asked : List Transmission) (opening : Ledger)
    (details : List Detail) (events : List Event) (l : Line) (w : Why) : Type 0 where
  pub explanation : Option Explanation
  pub explained : IsAmong lot plan asked opening events (at_of l) (spot_at asked (at_of l)) explanation
  pub spot_is : w.spot ≡ spot_of l
  pub text_is : w.text.items ≡ words_at lot plan tiers asked details (at_of l) explanation

-- of each line of an adjudicated batch, in order, among what the batch changed
abbrev pub AreWhys : SheetTable → Adjudicated → List Line → List Why → Type 0
AreWhys tiers b lines whys =
    AllZip (IsWhyAmong b.lot b.sheet tiers b.asked.items b.opening.ledger b.details
    (events_of 1 b.asked.items (fold_replies b.lot b.sheet 1 b.asked.items b.opening.ledger))) lines whys
