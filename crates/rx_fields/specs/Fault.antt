-- Meaning: the numbers of the faults, in the order in which they are checked.
use Rattle.std.specs.Prelude.{ℕ}
use Rattle.rx_fields.specs.declared.fault.FieldFault.{FieldFault}
use Rattle.rx_fields.specs.declared.fault.FieldFault.TheVariants as field
use Rattle.rx_fields.specs.declared.fault.IdFault.{IdFault}
use Rattle.rx_fields.specs.declared.fault.IdFault.TheVariants as id

-- the number of a field's fault
abbrev pub field_fault_code : FieldFault → ℕ
field_fault_code field.Empty = 1
field_fault_code field.TooLong = 2
field_fault_code field.NotDigit = 3
field_fault_code field.NotDate = 4

-- the number of an id's fault
abbrev pub id_fault_code : IdFault → ℕ
id_fault_code id.Blank = 1
id_fault_code id.TooLong = 2
id_fault_code id.NotPrintable = 3
id_fault_code id.Bar = 4
