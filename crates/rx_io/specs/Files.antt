-- Meaning: the six files of a run: their numbers, what a message calls them, and the options that name them.
use Rattle.std.specs.Prelude.{ℕ, List, Option, Some, None, codes}
use Rattle.rx_io.specs.declared.device.Device.{Device}
use Rattle.rx_io.specs.declared.device.Device.TheVariants as device
use Rattle.rx_io.specs.declared.files.Inputs.{Inputs}
use Rattle.rx_io.specs.declared.files.Outputs.{Outputs}

-- their numbers: inputs, which are read, before outputs, which are written
abbrev pub device_number : Device → ℕ
device_number device.Sheet = 1
device_number device.Books = 2
device_number device.Batch = 3
device_number device.Response = 4
device_number device.EndBooks = 5
device_number device.Settlement = 6

-- what a message calls a file
abbrev pub device_name : Device → List ℕ
device_name device.Sheet = codes "sheet"
device_name device.Books = codes "books"
device_name device.Batch = codes "batch"
device_name device.Response = codes "response"
device_name device.EndBooks = codes "end books"
device_name device.Settlement = codes "settlement"

-- the option that names a file
abbrev pub device_option : Device → List ℕ
device_option device.Sheet = codes "--sheet"
device_option device.Books = codes "--books"
device_option device.Batch = codes "--batch"
device_option device.Response = codes "--response"
device_option device.EndBooks = codes "--books-out"
device_option device.Settlement = codes "--settlement"

-- what stands for an input; an output has none
abbrev pub input_at : {T : Type 0} → Device → Inputs T T T → Option T
input_at device.Sheet inputs = Some inputs.sheet
input_at device.Books inputs = Some inputs.books
input_at device.Batch inputs = Some inputs.batch
input_at other inputs = None

-- what stands for an output; an input has none
abbrev pub output_at : {T : Type 0} → Device → Outputs T T T → Option T
output_at device.Response outputs = Some outputs.response
output_at device.EndBooks outputs = Some outputs.books
output_at device.Settlement outputs = Some outputs.settlement
output_at other outputs = None
