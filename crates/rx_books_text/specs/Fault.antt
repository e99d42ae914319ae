-- Meaning: the numbers and lines of the faults, and what a call answers that may run out of memory.
use Rattle.std.specs.Prelude.{ℕ, Bool, true, false, Option, Some, None, Result}
use Rattle.rx_text.specs.Outcomes as outcome
use Rattle.rx_ledger.specs.declared.ledger.AddError.{AddError}
use Rattle.rx_ledger.specs.declared.ledger.AddError.TheVariants as error
use Rattle.rx_books_text.specs.declared.fault.BooksFault.{BooksFault}
use Rattle.rx_books_text.specs.declared.fault.BooksFault.TheVariants as fault

-- the number of a fault
abbrev pub code_of : BooksFault → ℕ
code_of fault.Head = 1
code_of (fault.Line n) = 2
code_of (fault.Order n) = 3
code_of (fault.UnknownMember n) = 4
code_of (fault.Totals n) = 5
code_of fault.TooMuch = 6
code_of fault.Memory = 7

-- the line of a fault that has one
abbrev pub line_of_fault : BooksFault → Option ℕ
line_of_fault fault.Head = None
line_of_fault (fault.Line n) = Some n
line_of_fault (fault.Order n) = Some n
line_of_fault (fault.UnknownMember n) = Some n
line_of_fault (fault.Totals n) = Some n
line_of_fault fault.TooMuch = None
line_of_fault fault.Memory = None

-- the fault of line n that a ledger refused
abbrev pub refused : ℕ → AddError → BooksFault
refused n error.There = fault.Order n
refused n error.Unknown = fault.UnknownMember n
refused n error.Memory = fault.Memory

-- the fault is out of memory
abbrev pub wants_memory : BooksFault → Bool
wants_memory fault.Memory = true
wants_memory other = false

-- the fact, unless the fault is out of memory
abbrev pub UnlessMemory : BooksFault → Type 0 → Type 0
UnlessMemory f P = outcome.UnlessMemory wants_memory f P

-- what a call answered is what the definition has, unless memory ran out
abbrev pub Gives : {X : Type 0} → Result X BooksFault → Result X BooksFault → Type 0
Gives result meant = outcome.Gives wants_memory result meant

-- the value that a call put in place is the one that the definition has, unless memory ran out
abbrev pub Takes : {X : Type 0} → Result Unit BooksFault → X → Result X BooksFault → Type 0
Takes result new meant = outcome.Takes wants_memory result new meant
