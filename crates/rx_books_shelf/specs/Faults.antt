-- Meaning: the numbers of the faults.
use Rattle.std.specs.Prelude.{ℕ}
use Rattle.rx_books_shelf.specs.declared.fault.TakeFault.{TakeFault}
use Rattle.rx_books_shelf.specs.declared.fault.TakeFault.TheVariants as take

abbrev pub take_number : TakeFault → ℕ
take_number take.Absent = 1
take_number take.Memory = 2

-- a stranger
abbrev pub give_number : ℕ
give_number = 1
