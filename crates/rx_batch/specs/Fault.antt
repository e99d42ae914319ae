-- Meaning: the numbers and places of the faults, and what a call answers that may run out of memory.
use Rattle.std.specs.Prelude.{ℕ, Bool, true, false, Option, Some, None, Result}
use Rattle.rx_text.specs.Outcomes as outcome
use Rattle.rx_batch.specs.declared.fault.BatchFault.{BatchFault}
use Rattle.rx_batch.specs.declared.fault.BatchFault.TheVariants as fault

-- the number of a fault
abbrev pub code_of : BatchFault → ℕ
code_of (fault.Outside at) = 1
code_of (fault.NoHeader at) = 2
code_of (fault.HeaderShape at) = 3
code_of (fault.Unclosed at) = 4
code_of (fault.RecordKind at) = 5
code_of (fault.DetailShape at) = 6
code_of (fault.TrailerShape at) = 7
code_of (fault.NoTrailer at) = 8
code_of (fault.NumberDiffers at) = 9
code_of (fault.CountDiffers at) = 10
code_of (fault.AfterTrailer at) = 11
code_of (fault.TooMuch at) = 12
code_of fault.Memory = 13

-- how many bytes stand before the fault; out of memory has no place
abbrev pub place_of : BatchFault → Option ℕ
place_of (fault.Outside at) = Some at
place_of (fault.NoHeader at) = Some at
place_of (fault.HeaderShape at) = Some at
place_of (fault.Unclosed at) = Some at
place_of (fault.RecordKind at) = Some at
place_of (fault.DetailShape at) = Some at
place_of (fault.TrailerShape at) = Some at
place_of (fault.NoTrailer at) = Some at
place_of (fault.NumberDiffers at) = Some at
place_of (fault.CountDiffers at) = Some at
place_of (fault.AfterTrailer at) = Some at
place_of (fault.TooMuch at) = Some at
place_of fault.Memory = None

-- the fault is out of memory
abbrev pub wants_memory : BatchFault → Bool
wants_memory fault.Memory = true
wants_memory other = false

-- the fact, unless the fault is out of memory
abbrev pub UnlessMemory : BatchFault → Type 0 → Type 0
UnlessMemory f P = outcome.UnlessMemory wants_memory f P

-- what a call answered is what the definition has, unless memory ran out
abbrev pub Gives : {X : Type 0} → Result X BatchFault → Result X BatchFault → Type 0
Gives result meant = outcome.Gives wants_memory result meant

-- the value that a call put in place is the one that the definition has, unless memory ran out
abbrev pub Takes : {X : Type 0} → Result Unit BatchFault → X → Result X BatchFault → Type 0
Takes result new meant = outcome.Takes wants_memory result new meant
