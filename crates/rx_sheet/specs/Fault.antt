-- Meaning: the numbers of the faults, and what a call answers that may run out of memory.
use Rattle.std.specs.Prelude.{ℕ, Bool, true, false, Option, Some, None, Result}
use Rattle.rx_text.specs.Outcomes as outcome
use Rattle.rx_ledger.specs.declared.sheet_key.SheetKey.{SheetKey}
use Rattle.rx_sheet.specs.declared.fault.SheetFault.{SheetFault}
use Rattle.rx_sheet.specs.declared.fault.SheetFault.TheVariants as fault

-- the number of a fault
abbrev pub code_of : SheetFault → ℕ
code_of fault.NotToml = 1
code_of (fault.Missing key) = 2
code_of (fault.Wrong key) = 3
code_of fault.Memory = 4

-- the key that a fault names
abbrev pub key_of : SheetFault → Option SheetKey
key_of fault.NotToml = None
key_of (fault.Missing key) = Some key
key_of (fault.Wrong key) = Some key
key_of fault.Memory = None

-- the fault is out of memory
abbrev pub wants_memory : SheetFault → Bool
wants_memory fault.Memory = true
wants_memory other = false

-- the fact, unless the fault is out of memory
abbrev pub UnlessMemory : SheetFault → Type 0 → Type 0
UnlessMemory f P = outcome.UnlessMemory wants_memory f P

-- what a call answered, seen by `view`, is what the definition has, unless memory ran out
abbrev pub GivesAs : {X Y : Type 0} → (X → Y) → Result X SheetFault → Result Y SheetFault → Type 0
GivesAs view result meant = outcome.GivesAs wants_memory view result meant

-- what a call answered is what the definition has, unless memory ran out
abbrev pub Gives : {X : Type 0} → Result X SheetFault → Result X SheetFault → Type 0
Gives result meant = outcome.Gives wants_memory result meant
