-- Meaning: the faults of the command words.
use Rattle.std.specs.Prelude.{◌≡◌, ◌⊎◌, ℕ, ⊤, Bool, true, false, List, [], ◌∷◌, ◌++◌, codes, Option, None, Some, Result, Ok, Err}
use Rattle.clap.specs.Words.{kind_of}
use Rattle.clap.specs.declared.error.Error.{Error}
use Rattle.clap.specs.declared.error.kind.ErrorKind.{ErrorKind}
use Rattle.clap.specs.declared.error.kind.ErrorKind.TheVariants.{DisplayHelp, DisplayVersion, OutOfMemory}
use Rattle.rx_cli.specs.declared.fault.WordsFault.{WordsFault}
use Rattle.rx_cli.specs.declared.fault.WordsFault.TheVariants.{Words, Memory}

-- the number of a fault, in the order in which they are checked
abbrev pub number_of : WordsFault → ℕ
number_of (Words text) = 1
number_of Memory = 2

-- the words aren't understood
abbrev pub IsWords : WordsFault → Type 0
IsWords (Words text) = ⊤
IsWords Memory = ⊥

-- the text for standard error: none where one path stands twice; where `clap` prints it, no definition fixes it
abbrev pub fault_text : WordsFault → Option (List ℕ)
fault_text (Words (Some error)) = None
fault_text (Words None) = Some []
fault_text Memory = Some (codes "refused 6 0 0" ++ 10 ∷ [])

-- what `clap` says is of such a kind
abbrev pub is_of : (ErrorKind → Bool) → WordsFault → Bool
is_of is_such (Words (Some error)) = is_such (kind_of error)
is_of is_such _ = false

-- the words ask for the version
abbrev pub is_version : ErrorKind → Bool
is_version DisplayVersion = true
is_version _ = false

abbrev pub asks_version : WordsFault → Bool
asks_version fault = is_of is_version fault

-- and for help
abbrev pub is_help : ErrorKind → Bool
is_help DisplayHelp = true
is_help _ = false

abbrev pub asks_help : WordsFault → Bool
asks_help fault = is_of is_help fault

-- the words are misused, which `clap` reports as a fault of this kind, unless memory ran out
abbrev pub IsMisuse : ErrorKind → WordsFault → Type 0
IsMisuse kind (Words (Some error)) = kind_of error ≡ kind
IsMisuse kind (Words None) = ⊥
IsMisuse kind Memory = ⊤

-- the same with one of two kinds
abbrev pub IsMisuseOfOne : ErrorKind → ErrorKind → WordsFault → Type 0
IsMisuseOfOne one other fault = IsMisuse one fault ⊎ IsMisuse other fault

abbrev pub misuse_of : {E : Type 0} → Result Error E → WordsFault
misuse_of (Ok error) = Words (Some error)
misuse_of (Err error) = Memory

-- memory ran out
abbrev pub memory_fault : WordsFault
memory_fault = Memory

-- what `clap` says where memory ran out
abbrev pub out_of_memory : ErrorKind
out_of_memory = OutOfMemory
