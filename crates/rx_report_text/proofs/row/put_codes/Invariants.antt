use Rattle.std.proofs.Common.{take}
use Rattle.std.specs.List.{flat_map}
use Rattle.rx_print.specs.Page.{Writes}
use Rattle.rx_report_text.specs.Rows.{code_words}
use Rattle.rx_report_text.proofs.row.put_codes.Given as goal

abbrev pub invariant-loop-code : goal.invariant-loop-code
invariant-loop-code l = Writes l.fn.page l.page (flat_map code_words (take l.code-index l.listed))
