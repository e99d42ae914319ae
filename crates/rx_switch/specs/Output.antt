-- Meaning: what a run gives: the texts of adjudicating the records one after another in file order, or a refusal.
use Rattle.std.specs.Prelude.{◌≡◌, ℕ, Bool, false, if◌then◌else◌, List, Result, Ok, Err}
use Rattle.std.specs.Option.{ok_or}
use Rattle.rx_fields.specs.Clock.{stamp_of}
use Rattle.rx_fields.specs.Numbered.{Span}
use Rattle.rx_fields.specs.declared.stamp.Stamp.{Stamp}
use Rattle.rx_batch.specs.Grammar.{IsFile}
use Rattle.rx_batch.specs.Reading.{HasFault as HasBatchFault}
use Rattle.rx_batch.specs.declared.detail.Detail.{Detail}
use Rattle.rx_batch.specs.declared.fault.BatchFault.{BatchFault}
use Rattle.rx_batch.specs.declared.head.Head.{Head}
use Rattle.rx_books_store.specs.BooksText.{books_text}
use Rattle.rx_books_store.specs.BooksFile.{HasBooksFault, IsBooksText}
use Rattle.rx_books_text.specs.declared.fault.BooksFault.{BooksFault}
use Rattle.rx_books_text.specs.declared.version.Version.TheVariants.{Three}
use Rattle.rx_d0_values.specs.declared.reply.Reply.{Reply}
use Rattle.rx_d0_values.specs.declared.transmission.Transmission.{Transmission}
use Rattle.rx_ledger.specs.Fold.{fold_ledger, fold_replies}
use Rattle.rx_ledger.specs.Ledger.{Ledger}
use Rattle.rx_ledger.specs.Plan.{Plan}
use Rattle.rx_response.specs.Response.{response_text}
use Rattle.rx_settle.specs.Settlement.{settlement_text}
use Rattle.rx_sheet.specs.SheetText.{sheet_of_text}
use Rattle.rx_sheet.specs.declared.fault.SheetFault.{SheetFault}
use Rattle.rx_wave.specs.Decoding.{transmissions_of}
use Rattle.rx_wave.specs.Workers.{RefusesOne as GateRefusesOne, are_workers}
use Rattle.rx_switch.specs.declared.fault.SwitchFault.{SwitchFault}
use Rattle.rx_switch.specs.declared.fault.SwitchFault.TheVariants as fault

-- what a run is given: the texts of plan sheet, opening books and batch file, the stamp, and the number of workers
pub record Given : Type 0 where
  pub sheet : List ℕ
  pub books : List ℕ
  pub batch : List ℕ
  pub stamp : List ℕ
  pub workers : ℕ

-- what it gives: the texts of response file, end books and settlement
pub record Texts : Type 0 where
  pub response : List ℕ
  pub books : List ℕ
  pub settlement : List ℕ

-- what the inputs stand for
pub record Accepted : Type 0 where
  pub stamp : Stamp
  pub plan : Plan
  pub period : Span
  pub opening : Ledger
  pub head : Head
  pub details : List Detail

-- the run's date and time: first the number of workers is looked at, then the stamp
abbrev pub stamp_for : ℕ → List ℕ → Result Stamp SwitchFault
stamp_for workers stamp =
    if are_workers workers then ok_or (stamp_of stamp) fault.Stamp else Err fault.Workers

-- the inputs are accepted, and stand for this
pub record StandFor (g : Given) (x : Accepted) : Type 0 where
  pub stamp : stamp_for g.workers g.stamp ≡ Ok x.stamp
  pub sheet : sheet_of_text g.sheet ≡ Ok x.plan
  pub books : IsBooksText g.books x.period x.opening
  pub batch : IsFile g.batch x.head x.details

-- the transmissions of the details, in file order
abbrev pub asked : Accepted → List Transmission
asked x = transmissions_of x.plan.figures.door x.details

-- the replies to them and the ledger after them, adjudicated one after another in file order
abbrev pub replies : Accepted → List Reply
replies x = fold_replies x.head.lot x.plan 1 (asked x) x.opening

abbrev pub ledger_at_end : Accepted → Ledger
ledger_at_end x = fold_ledger x.head.lot x.plan 1 (asked x) x.opening

-- the three texts: replies to the details, the ledger with the sums of the sheet's period, and the settlement
abbrev pub texts_of : Accepted → Texts
texts_of x =
    record {
      response = response_text x.head x.stamp x.details (replies x);
      books = books_text Three x.plan.figures.period (ledger_at_end x);
      settlement = settlement_text x.head.lot x.stamp (replies x);
    }

-- the inputs are accepted, and these are their texts
pub record IsOutput (g : Given) (texts : Texts) : Type 0 where
  pub inputs : Accepted
  pub accepted : StandFor g inputs
  pub texts_are : texts ≡ texts_of inputs

-- the definitions refuse what is given: the first, in this order, of workers, stamp, sheet, books and batch. Out of memory
-- may stand in the place of sheet, books and batch and of any output; a thread is refused only to a run whose inputs are
-- accepted
pub data IsRefused (g : Given) : SwitchFault → Type 0 where
  words : (f : SwitchFault) → stamp_for g.workers g.stamp ≡ Err f → IsRefused g f
  sheet : (s : Stamp) (f : SheetFault) → stamp_for g.workers g.stamp ≡ Ok s → sheet_of_text g.sheet ≡ Err f
      → IsRefused g (fault.Sheet f)
  books : (s : Stamp) (plan : Plan) (f : BooksFault) → stamp_for g.workers g.stamp ≡ Ok s
      → sheet_of_text g.sheet ≡ Ok plan → HasBooksFault g.books f → IsRefused g (fault.Books f)
  batch : (s : Stamp) (plan : Plan) (period : Span) (opening : Ledger) (f : BatchFault)
      → stamp_for g.workers g.stamp ≡ Ok s → sheet_of_text g.sheet ≡ Ok plan → IsBooksText g.books period opening
      → HasBatchFault g.batch f → IsRefused g (fault.Batch f)
  memory : (s : Stamp) → stamp_for g.workers g.stamp ≡ Ok s → IsRefused g fault.Memory
  thread : (x : Accepted) → StandFor g x → IsRefused g fault.Thread

-- the gate refuses to start one of the workers, which a plain run doesn't ask
pub record RefusesOne (plain : Bool) (starts : ℕ → Bool) (workers : ℕ) : Type 0 where
  pub parallel : plain ≡ false
  pub of_gate : GateRefusesOne starts workers

-- what stops a run whose inputs are accepted: lack of memory or of a thread that the gate refuses to start
abbrev pub IsStopped : Bool → (ℕ → Bool) → ℕ → SwitchFault → Type 0
IsStopped plain starts workers fault.Workers = ⊥
IsStopped plain starts workers fault.Stamp = ⊥
IsStopped plain starts workers (fault.Sheet f) = ⊥
IsStopped plain starts workers (fault.Books f) = ⊥
IsStopped plain starts workers (fault.Batch f) = ⊥
IsStopped plain starts workers fault.Memory = Unit {0}
IsStopped plain starts workers fault.Thread = RefusesOne plain starts workers
