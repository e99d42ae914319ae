-- Meaning: what a page has of a file's bytes: each is escaped.
use Rattle.std.specs.Prelude.{ℕ, List, option_map, codes}
use Rattle.std.specs.Option.{unwrap_or}
use Rattle.std.specs.Result.{result_ok}
use Rattle.rx_print.specs.Escape.{escaped}
use Rattle.rx_print.specs.declared.style.Style.TheVariants.{Html}
use Rattle.rx_fields.specs.Text.{id_of}
use Rattle.rx_report.specs.declared.line.Line.{Line}
use Rattle.rx_report_text.specs.declared.shown.Shown.{Shown}
use Rattle.rx_report_text.specs.Shown.{shown_cell}

-- the provider that a field names
abbrev pub provider_text : List ℕ → List ℕ
provider_text field = unwrap_or (option_map (escaped Html) (result_ok (id_of 15 field))) (codes "(no id)")

-- what stands for an answer in a column
abbrev pub cell_text : Shown → Line → List ℕ
cell_text shown l = escaped Html (shown_cell shown l)
