-- Meaning: what the reader of a members table answers, which may run out of memory.
use Rattle.std.specs.Prelude.{Bool, true, false, Result}
use Rattle.rx_text.specs.Outcomes as outcome
use Rattle.rx_books_upkeep.specs.declared.table_fault.TableFault.{TableFault}
use Rattle.rx_books_upkeep.specs.declared.table_fault.TableFault.TheVariants as fault

-- the fault is out of memory
abbrev pub wants_memory : TableFault → Bool
wants_memory fault.Memory = true
wants_memory other = false

-- what a call answered is what the definition has, unless memory ran out
abbrev pub Gives : {X : Type 0} → Result X TableFault → Result X TableFault → Type 0
Gives result meant = outcome.Gives wants_memory result meant

-- the value that a call put in place is the one that the definition has, unless memory ran out
abbrev pub Takes : {X : Type 0} → Result Unit TableFault → X → Result X TableFault → Type 0
Takes result new meant = outcome.Takes wants_memory result new meant
