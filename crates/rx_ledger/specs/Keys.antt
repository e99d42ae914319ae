-- Meaning: the numbers of the plan sheet's keys, and of the errors of additions.
use Rattle.std.specs.Prelude.{ℕ}
use Rattle.rx_ledger.specs.declared.ledger.AddError.{AddError}
use Rattle.rx_ledger.specs.declared.ledger.AddError.TheVariants as error
use Rattle.rx_ledger.specs.declared.sheet.AddFault.{AddFault}
use Rattle.rx_ledger.specs.declared.sheet.AddFault.TheVariants as fault
use Rattle.rx_ledger.specs.declared.sheet_key.SheetKey.{SheetKey}
use Rattle.rx_ledger.specs.declared.sheet_key.SheetKey.TheVariants as key

abbrev pub sheet_key_number : SheetKey → ℕ
sheet_key_number key.Bin = 1
sheet_key_number key.Pcn = 2
sheet_key_number key.PeriodFirst = 3
sheet_key_number key.PeriodLast = 4
sheet_key_number key.MemberDeductible = 5
sheet_key_number key.FamilyMaximum = 6
sheet_key_number key.RefillPercent = 7
sheet_key_number key.MaxDays = 8
sheet_key_number key.Fee = 9
sheet_key_number key.Tiers = 10
sheet_key_number key.Drugs = 11
sheet_key_number key.Tier = 12
sheet_key_number key.Price = 13
sheet_key_number key.FamilyDeductible = 14

-- of a member or a row for a ledger
abbrev pub add_error_number : AddError → ℕ
add_error_number error.There = 1
add_error_number error.Unknown = 2
add_error_number error.Memory = 3

-- of a drug for a sheet
abbrev pub add_fault_number : AddFault → ℕ
add_fault_number fault.Range = 1
add_fault_number fault.There = 2
add_fault_number fault.Memory = 3
