-- Meaning: what a fault is reported as: the exit status, and the numbers of the line on standard error.
use Rattle.std.specs.Prelude.{ℕ, [], ◌∷◌}
use Rattle.std.specs.Option.{option_map, unwrap_or}
use Rattle.rx_batch.specs.Fault.{code_of as batch_code, place_of}
use Rattle.rx_books_text.specs.Fault.{code_of as books_code, line_of_fault}
use Rattle.rx_ledger.specs.Keys.{sheet_key_number}
use Rattle.rx_sheet.specs.Fault.{code_of as sheet_code, key_of}
use Rattle.rx_io.specs.declared.device.Device.{Device}
use Rattle.rx_io.specs.Files.{device_number}
use Rattle.rx_switch.specs.declared.fault.IoFault.{IoFault}
use Rattle.rx_switch.specs.declared.fault.IoFault.TheVariants as io
use Rattle.rx_switch.specs.declared.fault.SwitchFault.{SwitchFault}
use Rattle.rx_switch.specs.declared.fault.SwitchFault.TheVariants as fault
use Rattle.rx_switch.specs.declared.fault.Told.{Told}
use Rattle.rx_switch.specs.Fault.{number_of}

-- the number of the fault inside a refusal, 0 if there is none
abbrev pub fault_within : SwitchFault → ℕ
fault_within (fault.Sheet f) = sheet_code f
fault_within (fault.Books f) = books_code f
fault_within (fault.Batch f) = batch_code f
fault_within other = 0

-- the key's number, the line, or the place in bytes of the fault inside a refusal, 0 if there is none
abbrev pub place_within : SwitchFault → ℕ
place_within (fault.Sheet f) = unwrap_or (option_map sheet_key_number (key_of f)) 0
place_within (fault.Books f) = unwrap_or (line_of_fault f) 0
place_within (fault.Batch f) = unwrap_or (place_of f) 0
place_within other = 0

-- a refused run: status 1, and `refused N M P`
abbrev pub refused : SwitchFault → Told
refused f = record { status = 1; numbers = number_of f ∷ fault_within f ∷ place_within f ∷ [] }

-- a fault of a file: status 3, and `file K`
abbrev pub broken : Device → Told
broken device = record { status = 3; numbers = device_number device ∷ 0 ∷ 0 ∷ [] }

abbrev pub told_of : IoFault → Told
told_of (io.Switch f) = refused f
told_of (io.Read device) = broken device
told_of (io.Long device) = broken device
told_of (io.Write device) = broken device
