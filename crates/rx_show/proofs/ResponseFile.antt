-- What a response file is read as, in the words of the grammar of batch files.
use Rattle.std.proofs.Common.{◌≡◌, ℕ, List, Result, refl, sym, ap, ◌∙◌}
use Rattle.rx_batch.specs.declared.batch.Batch.{Batch}
use Rattle.rx_batch.specs.declared.fault.BatchFault.{BatchFault}
use Rattle.rx_batch.specs.declared.head.Head.{Head}
use Rattle.rx_text.specs.Results.{◌>>=◌}
use Rattle.rx_batch.specs.Fault.{Gives, UnlessMemory}
use Rattle.rx_batch.specs.Reading.{HasFault, batch_of}
use Rattle.rx_batch.proofs.Readings.{batch_ok, batch_is_file, failed, fault_is_there, file_is_read}
use Rattle.rx_batch.proofs.Steps.{unless_so}
use Rattle.rx_show.specs.ResponseFile.{IsResponse, as_batch, response_of, with_kind}

-- what the batch with the type exchanged is read as, with the type R
abbrev typed : Result Batch BatchFault → Result Batch BatchFault
typed read = read >>= λ batch. batch_ok (with_kind batch)

-- a response file is read as its head and details
response_is_read : (bytes : List ℕ) (batch : Batch) → IsResponse bytes batch.head batch.details
    → response_of bytes ≡ batch_ok batch
response_is_read bytes batch is =
    ap typed (file_is_read (as_batch bytes) is.asked batch.details is.file)
    ∙ ap (λ (h : Head). batch_ok (record { head = h; details = batch.details })) (sym is.head_is)

-- ---- what is read is a batch with the type exchanged

pub asked_is_response : (bytes : List ℕ) (asked : Batch) → batch_of (as_batch bytes) ≡ batch_ok asked
    → IsResponse bytes (with_kind asked).head asked.details
asked_is_response bytes asked is =
    record { asked = asked.head; file = batch_is_file (as_batch bytes) asked is; head_is = refl }

pub asked_is_read : (bytes : List ℕ) (asked batch : Batch) → batch_of (as_batch bytes) ≡ batch_ok asked
    → IsResponse bytes batch.head batch.details → Gives (batch_ok (with_kind asked)) (batch_ok batch)
asked_is_read bytes asked batch is file = sym (response_is_read bytes batch file) ∙ ap typed is

-- ---- what is read is a fault of that

pub fault_is_read : (bytes : List ℕ) (f : BatchFault) (batch : Batch)
    → UnlessMemory f (batch_of (as_batch bytes) ≡ failed f) → IsResponse bytes batch.head batch.details
    → Gives (failed f) (batch_ok batch)
fault_is_read bytes f batch is file =
    unless_so f (λ h. sym (response_is_read bytes batch file) ∙ ap typed h) is

pub fault_is_of_batch : (bytes : List ℕ) (f : BatchFault) → UnlessMemory f (batch_of (as_batch bytes) ≡ failed f)
    → UnlessMemory f (HasFault (as_batch bytes) f)
fault_is_of_batch bytes f is = unless_so f (fault_is_there (as_batch bytes) f) is
