-- A run whose inputs are accepted gives its texts, or is stopped by lack of memory or of a thread.
use Rattle.std.proofs.Common.{◌≡◌, ℕ, Bool, true, false, List, Result, Ok, Err, refl, sym, ◌∙◌, inl, inr}
use Rattle.std.specs.Prelude.{IfErr, IfOk}
use Rattle.std.proofs.lemmas.Bool.{cases_Bool}
use Rattle.std.proofs.lemmas.Result.{IfErr-at_err}
use Rattle.rx_fields.specs.declared.stamp.Stamp.{Stamp}
use Rattle.rx_wave.specs.Workers.{are_workers}
use Rattle.rx_switch.specs.declared.fault.SwitchFault.{SwitchFault}
use Rattle.rx_switch.specs.declared.fault.SwitchFault.TheVariants as fault
use Rattle.rx_switch.specs.Output.{Accepted, Given, IsOutput, IsRefused, IsStopped, RefusesOne, StandFor, Texts, stamp_for, texts_of}
use Rattle.rx_switch.specs.Output.IsRefused.{memory as refused_memory, thread as refused_thread}

-- where the stamp is read, so are the workers
no_workers : (workers : ℕ) (stamp : List ℕ) → are_workers workers ≡ false → stamp_for workers stamp ≡ Err fault.Workers
no_workers workers stamp bad = rw bad refl

pub workers_of_stamp : (workers : ℕ) (stamp : List ℕ) (s : Stamp) → stamp_for workers stamp ≡ Ok s → are_workers workers ≡ true
workers_of_stamp workers stamp s e = elim (cases_Bool (are_workers workers)) [
  | inl good ↦ good
  | inr bad ↦ (let clash : Ok s ≡ Err fault.Workers = sym e ∙ no_workers workers stamp bad in absurd cc)
]

module _ (plain : Bool) (starts : ℕ → Bool) (workers : ℕ) where
  -- the definitions refuse a run that is stopped, whose inputs are accepted
  pub refuses : (g : Given) (x : Accepted) → StandFor g x → (f : SwitchFault) → IsStopped plain starts workers f → IsRefused g f
  refuses g x accepted fault.Workers h = absurd h
  refuses g x accepted fault.Stamp h = absurd h
  refuses g x accepted (fault.Sheet f) h = absurd h
  refuses g x accepted (fault.Books f) h = absurd h
  refuses g x accepted (fault.Batch f) h = absurd h
  refuses g x accepted fault.Memory h = refused_memory x.stamp accepted.stamp
  refuses g x accepted fault.Thread h = refused_thread x accepted

  pub if_refused : {T : Type 0} (g : Given) (x : Accepted) → StandFor g x → (r : Result T SwitchFault)
      → IfErr r (λ f. IsStopped plain starts workers f) → IfErr r (λ f. IsRefused g f)
  if_refused g x accepted (Ok made) h = tt
  if_refused g x accepted (Err f) h = refuses g x accepted f h

  pub if_thread : {T : Type 0} (r : Result T SwitchFault) → IfErr r (λ f. IsStopped plain starts workers f)
      → r ≡ Err fault.Thread → RefusesOne plain starts workers
  if_thread r h e = IfErr-at_err (λ f. IsStopped plain starts workers f) e h

-- the texts are the output of what was given
pub if_output : {T : Type 0} (texts_in : T → Texts) (g : Given) (x : Accepted) → StandFor g x → (r : Result T SwitchFault)
    → IfOk r (λ output. texts_in output ≡ texts_of x) → IfOk r (λ output. IsOutput g (texts_in output))
if_output texts_in g x accepted (Ok output) h = record { inputs = x; accepted = accepted; texts_are = h }
if_output texts_in g x accepted (Err f) h = tt
