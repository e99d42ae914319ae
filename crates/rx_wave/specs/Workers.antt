-- Meaning: workers: how many a run may have, and the gate that refuses to start one of them.
use Rattle.std.specs.Prelude.{◌≡◌, ◌≤◌, ℕ, Bool, false, ◌&&◌, nat_le}
use Rattle.rx_fields.specs.declared.limits.TheConstants.{MOST_WORKERS}
use Rattle.rx_wave.specs.declared.run_fault.RunFault.{RunFault}
use Rattle.rx_wave.specs.declared.run_fault.RunFault.TheVariants as fault

-- 1 to `MOST_WORKERS` workers
abbrev pub are_workers : ℕ → Bool
are_workers workers = nat_le 1 workers && nat_le workers MOST_WORKERS

-- the gate refuses to start one of two or more workers, who are numbered from 1
pub record RefusesOne (starts : ℕ → Bool) (workers : ℕ) : Type 0 where
  pub several : 2 ≤ workers
  pub worker : ℕ
  pub within : (1 ≤ worker) × (worker ≤ workers)
  pub refused : starts worker ≡ false

-- the number of a fault
abbrev pub run_fault_number : RunFault → ℕ
run_fault_number fault.Workers = 1
run_fault_number fault.Memory = 2
run_fault_number fault.Thread = 3
