-- Text: what is said of each reject code of a request that can't be read.
use Rattle.std.specs.Prelude.{ℕ, List, [], ◌++◌, Option, Some, None, codes}
use Rattle.std.specs.List.{flat_map}
use Rattle.std.specs.Option.{unwrap_or}
use Rattle.rx_print.specs.Escape.{escaped}
use Rattle.rx_print.specs.declared.style.Style.TheVariants.{Terminal}
use Rattle.rx_explain_text.specs.RequestField.{field_bytes, field_number}
use Rattle.rx_explain_text.specs.Said.{said, say}
use Rattle.rx_explain_text.specs.Words.{name_of, expected_of}
use Rattle.rx_fields.specs.Codes.{code_text}
use Rattle.rx_fields.specs.declared.code.Code.{Code}
use Rattle.rx_fields.specs.declared.code.Code.TheVariants as code
use Rattle.rx_fields.specs.declared.door.Door.{Door}

-- bytes as a terminal shows them
abbrev pub shown : List ℕ → List ℕ
shown bytes = escaped Terminal bytes

unfoldable pub in_quotes : List ℕ → List ℕ
in_quotes bytes = say "\"" ++ (shown bytes ++ say "\"")

-- the bytes of a field, or that it is absent
abbrev pub bytes_text : Option (List ℕ) → List ℕ
bytes_text None = say " is absent"
bytes_text (Some bytes) = say " is " ++ in_quotes bytes

unfoldable pub value_text : List ℕ → List ℕ
value_text bytes = say ", " ++ in_quotes bytes

-- the plan's own value, where the code expects that
abbrev pub own_text : Door → Code → List ℕ
own_text d code.Bin = value_text d.bin
own_text d code.ProcessorControlNumber = value_text d.pcn
own_text d other = []

-- a code with its name
unfoldable pub named_code : Code → List ℕ
named_code c = code_text c ++ (say " " ++ said (name_of c))

unfoldable pub expected_text : Door → Code → List ℕ
expected_text d c = say ", expected is " ++ (said (expected_of c) ++ (own_text d c ++ say "\n"))

-- the code, the field of the nth group that it speaks of, that field's bytes, and what is expected
unfoldable pub code_line : Door → List ℕ → ℕ → Code → List ℕ
code_line d request nth c =
    say "  " ++ (named_code c ++ (say ": " ++ (said (unwrap_or (field_number c) (codes "the text"))
    ++ (bytes_text (field_bytes request nth c) ++ expected_text d c))))

abbrev pub code_lines : Door → List ℕ → ℕ → List Code → List ℕ
code_lines d request nth cs = flat_map (code_line d request nth) cs
