-- Meaning: what `compare` prints, and when it is refused.
use Rattle.std.specs.Prelude.{◌≡◌, ℕ, List, ◌++◌, length}
use Rattle.rx_fields.specs.Numbered.{Span}
use Rattle.rx_batch.specs.declared.detail.Detail.{Detail}
use Rattle.rx_batch.specs.declared.head.Head.{Head}
use Rattle.rx_books_store.specs.BooksFile.{IsBooksText}
use Rattle.rx_ledger.specs.Ledger.{Ledger}
use Rattle.rx_ledger.specs.Plan.{Plan}
use Rattle.rx_switch.specs.Planned.{IsNotPlanned}
use Rattle.rx_commands.specs.ComparedText.{end_text, front_text, lines_after}
use Rattle.rx_commands.specs.Differing.{IsWhole, change, differing}
use Rattle.rx_commands.specs.Reported.{AreAccepted, IsReported}
use Rattle.rx_commands.specs.declared.batch_report.Report.{Report}
use Rattle.rx_commands.specs.declared.comparing.fault.CompareFault.{CompareFault}
use Rattle.rx_commands.specs.declared.comparing.fault.CompareFault.TheVariants.{Given, Changed}
use Rattle.rx_commands.specs.declared.comparing.form.CompareForm.{CompareForm}

-- a line for each answer of two adjudications that differs; with their number, both nets and the difference
abbrev pub text_of : CompareForm → Report → Report → List ℕ
text_of form r s =
    let ds = differing r s in
    front_text form ++ (lines_after form 0 ds ++ end_text form r.batch.lot r.settled.total s.settled.total (length ds) (change ds))

-- the batch is adjudicated with sheet and books, and with the others; the text has a line for each answer that differs, no reply
-- without a line differs, and the nets differ by the sum of the lines
pub record IsCompared (sheet books other_sheet other_books batch : List ℕ) (form : CompareForm) (text : List ℕ) : Type 0 where
  pub given : Report
  pub changed : Report
  pub given_is : IsReported sheet books batch given
  pub changed_is : IsReported other_sheet other_books batch changed
  pub text_is : text ≡ text_of form given changed
  pub whole : IsWhole given changed (differing given changed)

-- sheet, books and batch are accepted
pub record AreRead (sheet books batch : List ℕ) : Type 0 where
  pub plan : Plan
  pub period : Span
  pub opening : Ledger
  pub head : Head
  pub details : List Detail
  pub accepted : AreAccepted sheet batch plan head details
  pub books_are : IsBooksText books period opening

-- the first refusal of what is given; or this is accepted, and it is the first with the others. A run refuses the same
abbrev pub IsNotCompared : List ℕ → List ℕ → List ℕ → List ℕ → List ℕ → CompareFault → Type 0
IsNotCompared sheet books other_sheet other_books batch (Given f) = IsNotPlanned sheet books batch f
IsNotCompared sheet books other_sheet other_books batch (Changed f) =
    AreRead sheet books batch × IsNotPlanned other_sheet other_books batch f
