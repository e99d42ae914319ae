use Rattle.std.proofs.Common.{take}
use Rattle.std.specs.List.{flat_map}
use Rattle.rx_print.specs.Page.{Writes}
use Rattle.rx_report_text.specs.Columns.{line_row}
use Rattle.rx_report_text.proofs.columns.put_lines.Given as goal

abbrev pub invariant-loop-line : goal.invariant-loop-line
invariant-loop-line l = Writes l.fn.page l.page (flat_map (line_row l.columns) (take l.line-index l.lines))
