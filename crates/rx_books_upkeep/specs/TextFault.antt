-- Plumbing: faults of single texts as those of a call on texts, and what such a call answers that may run out of memory.
use Rattle.std.specs.Prelude.{Bool, true, false, Result}
use Rattle.rx_text.specs.Outcomes as outcome
use Rattle.rx_books_text.specs.declared.fault.BooksFault.{BooksFault}
use Rattle.rx_books_text.specs.declared.fault.BooksFault.TheVariants as books
use Rattle.rx_books_upkeep.specs.declared.table_fault.TableFault.{TableFault}
use Rattle.rx_books_upkeep.specs.declared.table_fault.TableFault.TheVariants as table
use Rattle.rx_books_upkeep.specs.declared.text_fault.UpkeepFault.{UpkeepFault}
use Rattle.rx_books_upkeep.specs.declared.text_fault.UpkeepFault.TheVariants as fault

abbrev pub of_books : BooksFault → UpkeepFault
of_books books.Memory = fault.Memory
of_books f = fault.Books f

-- the fault is out of memory
abbrev pub wants_memory : UpkeepFault → Bool
wants_memory fault.Memory = true
wants_memory other = false

abbrev pub of_table : TableFault → UpkeepFault
of_table table.Memory = fault.Memory
of_table f = fault.Table f

-- what a call answered, seen by `view`, is what the definition has, unless memory ran out
abbrev pub GivesAs : {X Y : Type 0} → (X → Y) → Result X UpkeepFault → Result Y UpkeepFault → Type 0
GivesAs view result meant = outcome.GivesAs wants_memory view result meant
