-- Meaning: what a run on devices did: which inputs were read to their ends, which texts were written, and which device failed.
use Rattle.std.specs.Prelude.{◌≡◌, ◌≤◌, ◌==◌, ℕ, Bool, false, List, length, Option, IfSome, Result, Ok, Err}
use Rattle.std.specs.Io.KnownBytes.{Appends}
use Rattle.rx_batch.specs.Pieces.{Fed, StandsFor}
use Rattle.rx_io.specs.Reading.{IsRead, most_reads}
use Rattle.rx_io.specs.Writing.{AppendsFront}
use Rattle.rx_io.specs.declared.fault.ReadFault.{ReadFault}
use Rattle.rx_io.specs.declared.fault.ReadFault.TheVariants as reading
use Rattle.rx_io.specs.declared.device.Device.{Device}
use Rattle.rx_io.specs.declared.device.Device.TheVariants as device
use Rattle.rx_io.specs.declared.files.Inputs.{Inputs}
use Rattle.rx_io.specs.declared.files.Outputs.{Outputs}
use Rattle.rx_io.specs.Files.{device_number}
use Rattle.rx_switch.specs.declared.fault.IoFault.{IoFault}
use Rattle.rx_switch.specs.declared.fault.IoFault.TheVariants as io
use Rattle.rx_switch.specs.declared.fault.SwitchFault.{SwitchFault}
use Rattle.rx_switch.specs.declared.fault.SwitchFault.TheVariants as fault
use Rattle.rx_switch.specs.Output.{Given, IsOutput, IsRefused, Texts}

-- ---- the devices

-- the bytes that each input has left, where it reports them
pub record Left : Type 0 where
  pub sheet : Option (List ℕ)
  pub books : Option (List ℕ)
  pub batch : Option (List ℕ)

-- the bytes that were written to each output, where it reports them
pub record Written : Type 0 where
  pub response : Option (List ℕ)
  pub books : Option (List ℕ)
  pub settlement : Option (List ℕ)

-- the inputs and the outputs
pub record Devices : Type 0 where
  pub inputs : Left
  pub outputs : Written

-- what the inputs have left, by what each device reports
abbrev pub left_of : {A B C : Type 0} → (A → Option (List ℕ)) → (B → Option (List ℕ)) → (C → Option (List ℕ))
    → Inputs A B C → Left
left_of of_sheet of_books of_batch inputs =
    record { sheet = of_sheet inputs.sheet; books = of_books inputs.books; batch = of_batch inputs.batch }

-- what was written to the outputs
abbrev pub written_of : {D E F : Type 0} → (D → Option (List ℕ)) → (E → Option (List ℕ)) → (F → Option (List ℕ))
    → Outputs D E F → Written
written_of of_response of_books of_settlement outputs =
    record {
      response = of_response outputs.response;
      books = of_books outputs.books;
      settlement = of_settlement outputs.settlement;
    }

-- all six, in the order of their numbers
abbrev pub devices_of : {A B C D E F : Type 0}
    → (A → Option (List ℕ)) → (B → Option (List ℕ)) → (C → Option (List ℕ))
    → (D → Option (List ℕ)) → (E → Option (List ℕ)) → (F → Option (List ℕ)) → Inputs A B C → Outputs D E F → Devices
devices_of sheet books batch response end_books settlement inputs outputs =
    record { inputs = left_of sheet books batch inputs; outputs = written_of response end_books settlement outputs }

-- whether a call of this device failed, by the answer
abbrev pub has_failed : {X : Type 0} → Device → Result X IoFault → Bool
has_failed d (Ok x) = false
has_failed d (Err (io.Switch f)) = false
has_failed d (Err (io.Long other)) = false
has_failed d (Err (io.Read other)) = device_number other == device_number d
has_failed d (Err (io.Write other)) = device_number other == device_number d

-- ---- reading

-- how a fault of reading the device is reported
abbrev pub of_reading : Device → ReadFault → IoFault
of_reading d reading.Failed = io.Read d
of_reading d reading.Long = io.Long d
of_reading d reading.Memory = io.Switch fault.Memory

-- reading this input broke off: a read failed, or it reports at least 4,194,304 bytes, or memory ran out
pub data IsUnreadAt (d : Device) (bytes : Option (List ℕ)) : IoFault → Type 0 where
  failed : IsUnreadAt d bytes (io.Read d)
  long : IfSome bytes (λ bytes. most_reads ≤ length bytes) → IsUnreadAt d bytes (io.Long d)
  memory : IsUnreadAt d bytes (io.Switch fault.Memory)

-- reading broke off at an input: those before it were read to their ends, of the later ones nothing was read
pub data IsUnread (before after : Left) (f : IoFault) : Type 0 where
  sheet : IsUnreadAt device.Sheet before.sheet f → after.books ≡ before.books → after.batch ≡ before.batch
      → IsUnread before after f
  books : (s : List ℕ) → IsRead before.sheet after.sheet s → IsUnreadAt device.Books before.books f
      → after.batch ≡ before.batch → IsUnread before after f
  batch : (s b : List ℕ) → IsRead before.sheet after.sheet s → IsRead before.books after.books b
      → IsUnreadAt device.Batch before.batch f → IsUnread before after f

-- an input's whole text was fed to the pieces of a batch
pub record IsFed (left rest : Option (List ℕ)) (fed : Fed) : Type 0 where
  pub bytes : List ℕ
  pub is_read : IsRead left rest bytes
  pub stands : StandsFor fed bytes

-- the inputs were read to their ends
pub record AreRead (before after : Left) (sheet books : List ℕ) (batch : Fed) : Type 0 where
  pub sheet_is : IsRead before.sheet after.sheet sheet
  pub books_is : IsRead before.books after.books books
  pub batch_is : IsFed before.batch after.batch batch

-- what the run is given: the stamp and the number of workers, and the texts of the inputs, read to their ends
pub record IsGiven (stamp : List ℕ) (workers : ℕ) (before after : Left) (g : Given) : Type 0 where
  pub stamp_is : g.stamp ≡ stamp
  pub workers_are : g.workers ≡ workers
  pub sheet_is : IsRead before.sheet after.sheet g.sheet
  pub books_is : IsRead before.books after.books g.books
  pub batch_is : IsRead before.batch after.batch g.batch

-- ---- writing

-- the outputs had these texts appended
pub record AreWritten (before after : Written) (t : Texts) : Type 0 where
  pub response_is : Appends before.response after.response t.response
  pub books_is : Appends before.books after.books t.books
  pub settlement_is : Appends before.settlement after.settlement t.settlement

-- writing broke off at an output, of whose text a front was written: those before it have theirs, the later ones
-- nothing
pub data IsUnwritten (before after : Written) (t : Texts) : IoFault → Type 0 where
  response : AppendsFront before.response after.response t.response → after.books ≡ before.books
      → after.settlement ≡ before.settlement → IsUnwritten before after t (io.Write device.Response)
  books : Appends before.response after.response t.response → AppendsFront before.books after.books t.books
      → after.settlement ≡ before.settlement → IsUnwritten before after t (io.Write device.EndBooks)
  settlement : Appends before.response after.response t.response → Appends before.books after.books t.books
      → AppendsFront before.settlement after.settlement t.settlement
      → IsUnwritten before after t (io.Write device.Settlement)

-- ---- the run

-- the run is done: the outputs had the texts appended that the run gives of all that the inputs had left
pub record IsDone (stamp : List ℕ) (workers : ℕ) (before after : Devices) : Type 0 where
  pub g : Given
  pub texts : Texts
  pub given_is : IsGiven stamp workers before.inputs after.inputs g
  pub texts_are : IsOutput g texts
  pub written_are : AreWritten before.outputs after.outputs texts

-- the run broke off: reading did, or the run is refused, and nothing was written; or writing did
pub data IsBroken (stamp : List ℕ) (workers : ℕ) (before after : Devices) : IoFault → Type 0 where
  unread : (f : IoFault) → IsUnread before.inputs after.inputs f → after.outputs ≡ before.outputs
      → IsBroken stamp workers before after f
  refused : (g : Given) (f : SwitchFault) → IsGiven stamp workers before.inputs after.inputs g → IsRefused g f
      → after.outputs ≡ before.outputs → IsBroken stamp workers before after (io.Switch f)
  unwritten : (g : Given) (texts : Texts) (f : IoFault) → IsGiven stamp workers before.inputs after.inputs g
      → IsOutput g texts → IsUnwritten before.outputs after.outputs texts f → IsBroken stamp workers before after f
