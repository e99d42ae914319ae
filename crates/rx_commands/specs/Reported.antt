-- Meaning: the lines of a report, and the table of a batch's transactions.
use Rattle.std.specs.Prelude.{◌≡◌, ℕ, List, Ok, map}
use Rattle.rx_fields.specs.Numbered.{Span}
use Rattle.rx_batch.specs.Grammar.{IsFile}
use Rattle.rx_batch.specs.declared.detail.Detail.{Detail}
use Rattle.rx_batch.specs.declared.head.Head.{Head}
use Rattle.rx_books_store.specs.BooksFile.{IsBooksText}
use Rattle.rx_d0_values.specs.declared.reply.Reply.{Reply}
use Rattle.rx_d0_values.specs.declared.transmission.Transmission.{Transmission}
use Rattle.rx_ledger.specs.Fold.{fold_replies}
use Rattle.rx_ledger.specs.Plan.{Plan}
use Rattle.rx_report.specs.AddsUp.{AreLinesOf, IsSettlementOf}
use Rattle.rx_report.specs.Lines.{lines_of}
use Rattle.rx_commands.specs.Reversed.{with_reversed}
use Rattle.rx_commands.specs.declared.batch_report.Report.{Report}
use Rattle.rx_settle.specs.Answers.{answers_of, tally}
use Rattle.rx_settle.specs.Counting.{tallies_of}
use Rattle.rx_sheet.specs.SheetText.{sheet_of_text}
use Rattle.rx_show.specs.Table.{shown_table}
use Rattle.rx_wave.specs.Decoding.{transmissions_of}

-- the lines of the batch's answers, those of reversals with the members of their claims, and what its settlement says of each
-- provider and of all
pub record HasContents (asked : List Transmission) (replies : List Reply) (r : Report) : Type 0 where
  pub lines_are : r.lines.items ≡ map (with_reversed r.batch) (lines_of asked replies)
  pub providers_are : r.settled.providers.entries ≡ tallies_of replies
  pub total_is : r.settled.total ≡ tally (answers_of replies)

-- its tallies count the answers of its lines, and no others
abbrev pub IsCounted : Report → Type 0
IsCounted r = (replies : List Reply) × (AreLinesOf r.lines.items replies × IsSettlementOf replies r.settled)

-- sheet and batch are accepted, as this plan and a batch of this head and these details
pub record AreAccepted (sheet batch : List ℕ) (plan : Plan) (head : Head) (details : List Detail) : Type 0 where
  pub sheet_is : sheet_of_text sheet ≡ Ok plan
  pub batch_is : IsFile batch head details

-- sheet, books and batch are accepted; the batch asks what its details ask at the plan's door, the replies are those of
-- adjudicating that one record after another on the opening books, and the report is about its answers
pub record IsReported (sheet books batch : List ℕ) (r : Report) : Type 0 where
  pub period : Span
  pub head : Head
  pub accepted : AreAccepted sheet batch r.batch.sheet head r.batch.details
  pub books_are : IsBooksText books period r.batch.opening.ledger
  pub lot_is : r.batch.lot ≡ head.lot
  pub asked_are : r.batch.asked.items ≡ transmissions_of r.batch.sheet.figures.door r.batch.details
  pub replies_are : r.batch.replies.items
      ≡ fold_replies r.batch.lot r.batch.sheet 1 r.batch.asked.items r.batch.opening.ledger
  pub contents : HasContents r.batch.asked.items r.batch.replies.items r

-- sheet and batch are accepted, and the text is the table of the batch's transmissions at the plan's door
pub record IsTable (sheet batch text : List ℕ) : Type 0 where
  pub plan : Plan
  pub head : Head
  pub details : List Detail
  pub accepted : AreAccepted sheet batch plan head details
  pub text_is : text ≡ shown_table (transmissions_of plan.figures.door details)
