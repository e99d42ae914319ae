-- Meaning: the transactions of a job that are asked for, explained.
use Rattle.std.specs.Prelude.{◌≡◌, ℕ, List, [], Option, Ok}
use Rattle.std.specs.List.{AllZip}
use Rattle.rx_fields.specs.Numbered.{LotParts, Span}
use Rattle.rx_batch.specs.Grammar.{IsFile}
use Rattle.rx_batch.specs.declared.head.Head.{Head}
use Rattle.rx_books_store.specs.BooksFile.{IsBooksText}
use Rattle.rx_d0_values.specs.declared.reply.Reply.{Reply}
use Rattle.rx_d0_values.specs.declared.transmission.Transmission.{Transmission}
use Rattle.rx_explain.specs.Explained.{IsExplained}
use Rattle.rx_explain.specs.Found.{found_in}
use Rattle.rx_explain.specs.Spots.{spot_at}
use Rattle.rx_explain.specs.declared.at.At.{At}
use Rattle.rx_explain.specs.declared.explanation.Explanation.{Explanation}
use Rattle.rx_explain.specs.declared.finding.Query.{Query}
use Rattle.rx_explain.specs.declared.finding.Query.TheVariants as query
use Rattle.rx_ledger.specs.Fold.{fold_replies}
use Rattle.rx_ledger.specs.Ledger.{Ledger}
use Rattle.rx_ledger.specs.Plan.{Plan}
use Rattle.rx_sheet.specs.SheetText.{sheet_of_text}
use Rattle.rx_commands.specs.Tiers.{table_of, table_of_text}
use Rattle.rx_wave.specs.Decoding.{transmissions_of}
use Rattle.rx_commands.specs.declared.retraced.Retraced.{Retraced}

-- of each transaction that is asked for, in order, its explanation
abbrev pub AreExplained : LotParts → Plan → List Transmission → Ledger → Query → List Reply → List (Option Explanation)
    → Type 0
AreExplained lot plan asked opening w replies explanations =
    AllZip (λ at x. IsExplained lot plan asked opening at (spot_at asked at) x) (found_in w 1 asked replies) explanations

-- what may be meant where nothing is found: the transactions of the record, or those of the prescription at any pharmacy
abbrev pub near_in : Query → List Transmission → List Reply → List At
near_in (query.One at) asked replies = found_in (query.Place at.place) 1 asked replies
near_in (query.ReferenceAt reference provider) asked replies = found_in (query.Reference reference) 1 asked replies
near_in other asked replies = []

-- sheet, books and batch are accepted; the tiers are the sheet's; these are what the batch asks at the plan's door, the
-- replies of adjudicating that one record after another, and the explanations of what is asked for
pub record IsRetraced (sheet books batch : List ℕ) (w : Query) (r : Retraced) : Type 0 where
  pub plan : Plan
  pub period : Span
  pub opening : Ledger
  pub head : Head
  pub sheet_is : sheet_of_text sheet ≡ Ok plan
  pub books_are : IsBooksText books period opening
  pub batch_is : IsFile batch head r.details
  pub lot_is : r.lot ≡ head.lot
  pub figures_are : r.figures ≡ plan.figures
  pub tiers_are : table_of r.tiers ≡ table_of_text sheet
  pub asked_are : r.asked.items ≡ transmissions_of plan.figures.door r.details
  pub replies_are : r.replies.items ≡ fold_replies head.lot plan 1 r.asked.items opening
  pub explanations_are : AreExplained head.lot plan r.asked.items opening w r.replies.items r.explanations.items
  pub near_are : r.near.items ≡ near_in w r.asked.items r.replies.items
