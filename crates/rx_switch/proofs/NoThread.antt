-- Lack of a thread is no answer to the number of workers, the stamp or the batch.
use Rattle.std.proofs.Common.{◌≡◌, ℕ, Bool, true, false, List, Option, Some, None, Result, Ok, Err, refl, sym, ap, ◌∙◌, inl, inr}
use Rattle.std.specs.Option.{ok_or}
use Rattle.std.proofs.lemmas.Bool.{cases_Bool, false≢true}
use Rattle.rx_fields.specs.Clock.{stamp_of}
use Rattle.rx_fields.specs.declared.stamp.Stamp.{Stamp}
use Rattle.rx_switch.specs.declared.fault.SwitchFault.{SwitchFault}
use Rattle.rx_switch.specs.declared.fault.SwitchFault.TheVariants as fault
use Rattle.rx_batch.specs.declared.fault.BatchFault.{BatchFault}
use Rattle.rx_batch.specs.declared.fault.BatchFault.TheVariants as batch
use Rattle.rx_switch.specs.Fault.{of_batch}
use Rattle.rx_switch.specs.Output.{stamp_for}
use Rattle.rx_wave.specs.Workers.{are_workers}

abbrev is_thread : Result Stamp SwitchFault → Bool
is_thread (Ok s) = false
is_thread (Err fault.Workers) = false
is_thread (Err fault.Stamp) = false
is_thread (Err (fault.Sheet f)) = false
is_thread (Err (fault.Books f)) = false
is_thread (Err (fault.Batch f)) = false
is_thread (Err fault.Memory) = false
is_thread (Err fault.Thread) = true

not_of_stamp : (o : Option Stamp) → is_thread (ok_or o fault.Stamp) ≡ false
not_of_stamp None = refl
not_of_stamp (Some s) = refl

is_never_thread : (workers : ℕ) (stamp : List ℕ) → is_thread (stamp_for workers stamp) ≡ false
is_never_thread workers stamp = elim (cases_Bool (are_workers workers)) [
  | inl good ↦ rw good (not_of_stamp (stamp_of stamp))
  | inr bad ↦ rw bad refl
]

pub never_thread : (workers : ℕ) (stamp : List ℕ) → ¬ (stamp_for workers stamp ≡ Err fault.Thread)
never_thread workers stamp e = false≢true (sym (is_never_thread workers stamp) ∙ ap is_thread e)

-- nor to the batch
pub no_batch_thread : (f : BatchFault) → fault.Thread ≡ of_batch f → ⊥
no_batch_thread (batch.Outside at) e = absurd cc
no_batch_thread (batch.NoHeader at) e = absurd cc
no_batch_thread (batch.HeaderShape at) e = absurd cc
no_batch_thread (batch.Unclosed at) e = absurd cc
no_batch_thread (batch.RecordKind at) e = absurd cc
no_batch_thread (batch.DetailShape at) e = absurd cc
no_batch_thread (batch.TrailerShape at) e = absurd cc
no_batch_thread (batch.NoTrailer at) e = absurd cc
no_batch_thread (batch.NumberDiffers at) e = absurd cc
no_batch_thread (batch.CountDiffers at) e = absurd cc
no_batch_thread (batch.AfterTrailer at) e = absurd cc
no_batch_thread (batch.TooMuch at) e = absurd cc
no_batch_thread batch.Memory e = absurd cc
