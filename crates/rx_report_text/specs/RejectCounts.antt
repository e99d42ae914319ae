-- Meaning: which answers of an account have a reject code.
use Rattle.std.specs.Prelude.{Bool, List, []}
use Rattle.std.specs.List.{filter, flat_map, list_any}
use Rattle.rx_d0_values.specs.declared.reply.Answer.{Answer}
use Rattle.rx_d0_values.specs.declared.reply.Answer.TheVariants.{Paid, Twice, Approved, Refused}
use Rattle.rx_fields.specs.Codes.{code_text}
use Rattle.rx_fields.specs.declared.code.Code.{Code}
use Rattle.rx_report.specs.declared.line.Line.{Line}
use Rattle.rx_report.specs.declared.section.Section.{Section}
use Rattle.rx_settle.specs.Providers.{is_same}

-- the codes of an answer; only a reject has any
abbrev pub codes_of : Answer → List Code
codes_of (Paid p) = []
codes_of (Twice p) = []
codes_of (Approved a) = []
codes_of (Refused r) = r.codes

-- an answer is rejected with this code, with others or without
abbrev pub has_code : Code → Line → Bool
has_code c l = list_any (λ d. is_same (code_text d) (code_text c)) (codes_of l.answer)

-- the lines of an account whose answers are, each once
abbrev pub lines_with : Code → List Section → List Line
lines_with c sections = flat_map (λ s. filter (has_code c) s.lines.now) sections
