-- Meaning: the numbers of the faults, and where a fault of an input stands among those of the run.
use Rattle.std.specs.Prelude.{ℕ}
use Rattle.rx_batch.specs.declared.fault.BatchFault.{BatchFault}
use Rattle.rx_batch.specs.declared.fault.BatchFault.TheVariants as batch
use Rattle.rx_books_text.specs.declared.fault.BooksFault.{BooksFault}
use Rattle.rx_books_text.specs.declared.fault.BooksFault.TheVariants as books
use Rattle.rx_sheet.specs.declared.fault.SheetFault.{SheetFault}
use Rattle.rx_sheet.specs.declared.fault.SheetFault.TheVariants as sheet
use Rattle.rx_wave.specs.declared.run_fault.RunFault.{RunFault}
use Rattle.rx_wave.specs.declared.run_fault.RunFault.TheVariants as run
use Rattle.rx_switch.specs.declared.fault.IoFault.{IoFault}
use Rattle.rx_switch.specs.declared.fault.IoFault.TheVariants as io
use Rattle.rx_switch.specs.declared.fault.SwitchFault.{SwitchFault}
use Rattle.rx_switch.specs.declared.fault.SwitchFault.TheVariants as fault

-- the number of a refusal
abbrev pub number_of : SwitchFault → ℕ
number_of fault.Workers = 1
number_of fault.Stamp = 2
number_of (fault.Sheet f) = 3
number_of (fault.Books f) = 4
number_of (fault.Batch f) = 5
number_of fault.Memory = 6
number_of fault.Thread = 7

-- out of memory met by a reader is the run's own, and any other fault is that input's
abbrev pub of_sheet : SheetFault → SwitchFault
of_sheet sheet.Memory = fault.Memory
of_sheet f = fault.Sheet f

abbrev pub of_books : BooksFault → SwitchFault
of_books books.Memory = fault.Memory
of_books f = fault.Books f

abbrev pub of_batch : BatchFault → SwitchFault
of_batch batch.Memory = fault.Memory
of_batch f = fault.Batch f

-- the faults of the workers are the run's own
abbrev pub of_run : RunFault → SwitchFault
of_run run.Workers = fault.Workers
of_run run.Memory = fault.Memory
of_run run.Thread = fault.Thread

-- the number of a fault of a run on devices
abbrev pub io_number : IoFault → ℕ
io_number (io.Switch f) = 1
io_number (io.Read d) = 2
io_number (io.Long d) = 3
io_number (io.Write d) = 4
