-- Meaning: the numbers of the faults of a plans file, which plan and key each names, and what a call answers that may run out of memory.
use Rattle.std.specs.Prelude.{ℕ, Bool, true, false, Option, Some, None, Result}
use Rattle.rx_text.specs.Outcomes as outcome
use Rattle.rx_sheet.specs.declared.plan_key.PlanKey.{PlanKey}
use Rattle.rx_sheet.specs.declared.plans_fault.PlansFault.{PlansFault}
use Rattle.rx_sheet.specs.declared.plans_fault.PlansFault.TheVariants as fault

-- the number of a fault
abbrev pub plans_code : PlansFault → ℕ
plans_code fault.NotToml = 1
plans_code fault.NoPlans = 2
plans_code (fault.NoTable n) = 3
plans_code (fault.Missing n key) = 4
plans_code (fault.Wrong n key) = 5
plans_code fault.Memory = 6

-- the plan that a fault names, counted from 1
abbrev pub plan_of : PlansFault → Option ℕ
plan_of fault.NotToml = None
plan_of fault.NoPlans = None
plan_of (fault.NoTable n) = Some n
plan_of (fault.Missing n key) = Some n
plan_of (fault.Wrong n key) = Some n
plan_of fault.Memory = None

-- the key that a fault names
abbrev pub plan_key_of : PlansFault → Option PlanKey
plan_key_of fault.NotToml = None
plan_key_of fault.NoPlans = None
plan_key_of (fault.NoTable n) = None
plan_key_of (fault.Missing n key) = Some key
plan_key_of (fault.Wrong n key) = Some key
plan_key_of fault.Memory = None

-- the fault is out of memory
abbrev pub lacks_memory : PlansFault → Bool
lacks_memory fault.Memory = true
lacks_memory other = false

-- what a call answered, seen by `view`, is what the definition has, unless memory ran out
abbrev pub PlansGive : {X Y : Type 0} → (X → Y) → Result X PlansFault → Result Y PlansFault → Type 0
PlansGive view result meant = outcome.GivesAs lacks_memory view result meant
