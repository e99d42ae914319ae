-- Meaning: the steps of a run in their order, and how long each took.
use Rattle.std.specs.Prelude.{ℕ, Option, None, get_or}
use Rattle.rx_run_log.specs.declared.step.Step.{Step}
use Rattle.rx_run_log.specs.declared.step.Step.TheVariants as step
use Rattle.rx_run_log.specs.declared.step.StepTimes.{StepTimes}

-- the place of a step, from 0
abbrev pub place_of : Step → ℕ
place_of step.Sheet = 0
place_of step.Books = 1
place_of step.Batch = 2
place_of step.Adjudicate = 3
place_of step.Response = 4
place_of step.EndBooks = 5
place_of step.Settlement = 6
place_of step.Disk = 7

-- how long the step took, in microseconds
abbrev pub time_of : StepTimes → Step → Option ℕ
time_of times s = get_or times.micros (place_of s) None
