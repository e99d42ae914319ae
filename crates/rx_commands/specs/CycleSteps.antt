-- Plumbing: response files of a pay cycle while they are read, one after another.
use Rattle.std.specs.Prelude.{◌≡◌, ℕ, All, List, [], ◌∷◌, ◌++◌}
use Rattle.std.specs.List.{AllZip}
use Rattle.rx_batch.specs.declared.batch.Batch.{Batch}
use Rattle.rx_batch.specs.declared.detail.Detail.{Detail}
use Rattle.rx_batch.specs.declared.fault.BatchFault.{BatchFault}
use Rattle.rx_batch.specs.declared.fault.BatchFault.TheVariants as batch
use Rattle.rx_batch.specs.declared.head.Head.{Head}
use Rattle.rx_batch.specs.declared.head.Kind.TheVariants.{Transmission}
use Rattle.rx_batch.specs.Grammar.{IsInside}
use Rattle.rx_batch.specs.Reading.{HasFault}
use Rattle.rx_books_store.specs.LedgerBooks.{LedgerBooks}
use Rattle.rx_d0_values.specs.declared.reply.Reply.{Reply}
use Rattle.rx_fields.specs.declared.stamp.Stamp.{Stamp}
use Rattle.rx_io.specs.declared.files.Inputs.{Inputs}
use Rattle.rx_ledger.specs.Plan.{Plan}
use Rattle.rx_response.specs.Response.{response_head}
use Rattle.rx_settle.specs.declared.batch_run.BatchRun.{BatchRun}
use Rattle.rx_show.specs.Found.{IsUnreadable}
use Rattle.rx_show.specs.ResponseFile.{as_batch}
use Rattle.rx_switch.specs.Output.{Accepted}
use Rattle.rx_commands.specs.declared.cycle.fault.CycleFault.{CycleFault}
use Rattle.rx_commands.specs.declared.cycle.fault.CycleFault.TheVariants as fault
use Rattle.rx_commands.specs.Cycle.{Answered, AreTexts, IsAnswered, IsFirstUnreadable, replies_in, run_of, runs_in}

-- the fault of the file at this place, as the reader of response files has it; lack of memory is of no file
abbrev pub of_response : ℕ → BatchFault → CycleFault
of_response at batch.Memory = fault.Memory
of_response at f = fault.NoResponse at f

-- the bytes, which stand at this place among the files, are no response file
abbrev pub IsNotRead : ℕ → List ℕ → CycleFault → Type 0
IsNotRead at bytes (fault.NoResponse file f) = (file ≡ at) × HasFault (as_batch bytes) f
IsNotRead at bytes (fault.NoReply file place f) = ⊥
IsNotRead at bytes fault.Memory = Unit {0}

-- the bytes are the text of no reply, in the detail at this place of the file at that place
abbrev pub IsNoText : ℕ → ℕ → List ℕ → CycleFault → Type 0
IsNoText at before bytes (fault.NoResponse file f) = ⊥
IsNoText at before bytes (fault.NoReply file place f) = (file ≡ at) × (place ≡ before) × IsUnreadable bytes f
IsNoText at before bytes fault.Memory = Unit {0}

-- one of the details holds no reply
abbrev pub IsBadDetail : ℕ → List Detail → CycleFault → Type 0
IsBadDetail at details (fault.NoResponse file f) = ⊥
IsBadDetail at details (fault.NoReply file place f) = (file ≡ at) × IsFirstUnreadable details place f
IsBadDetail at details fault.Memory = Unit {0}

-- the replies that the details hold follow those before
pub record AreAppended (details : List Detail) (old new : List Reply) : Type 0 where
  pub more : List Reply
  pub texts : AreTexts details more
  pub joined : new ≡ old ++ more

-- the batch that the bytes answer follows those before
pub record IsAppended (bytes : List ℕ) (runs : List BatchRun) (replies : List Reply) (new_runs : List BatchRun)
    (new_replies : List Reply) : Type 0 where
  pub batch : Answered
  pub answered : IsAnswered bytes batch
  pub runs_joined : new_runs ≡ runs ++ run_of batch.head ∷ []
  pub replies_joined : new_replies ≡ replies ++ batch.replies

-- the files are response files, and this is what is read of them
pub record AreAnswers (files : List (List ℕ)) (runs : List BatchRun) (replies : List Reply) : Type 0 where
  pub batches : List Answered
  pub each : AllZip IsAnswered files batches
  pub runs_are : runs ≡ runs_in batches
  pub replies_are : replies ≡ replies_in batches

-- no STX or ETX stands in the fields of a head and in the references of details, as a batch file that is read has it
pub record IsSent (head : Head) (details : List Detail) : Type 0 where
  pub sender : IsInside head.sender
  pub receiver : IsInside head.receiver
  pub references : All (λ d. IsInside d.reference) details

-- the header of the response file with the type of a batch file
abbrev pub asked_back : Head → Stamp → Head
asked_back head stamp = record (response_head head stamp) { kind = Transmission }

-- what the inputs of a run stand for, once they are read
abbrev pub accepted_of : Inputs Plan LedgerBooks Batch → Stamp → Accepted
accepted_of inputs stamp =
    record {
      stamp = stamp;
      plan = inputs.sheet;
      period = inputs.books.period;
      opening = inputs.books.ledger;
      head = inputs.batch.head;
      details = inputs.batch.details;
    }
