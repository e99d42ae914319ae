use Rattle.std.proofs.Common.{take}
use Rattle.std.specs.List.{flat_map}
use Rattle.rx_print.specs.Page.{Writes}
use Rattle.rx_report_text.specs.Rejects.{code_row}
use Rattle.rx_report_text.proofs.rejects.put_each_code.Given as goal

abbrev pub invariant-loop-code : goal.invariant-loop-code
invariant-loop-code l =
    Writes l.fn.page l.page (flat_map (code_row l.unfolds l.sections) (take l.code-index l.listed))
