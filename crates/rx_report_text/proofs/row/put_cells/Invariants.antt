use Rattle.std.proofs.Common.{take}
use Rattle.std.specs.List.{flat_map}
use Rattle.rx_print.specs.Page.{Writes}
use Rattle.rx_report_text.specs.Rows.{data_cell}
use Rattle.rx_report_text.proofs.row.put_cells.Given as goal

abbrev pub invariant-loop-shown : goal.invariant-loop-shown
invariant-loop-shown l = Writes l.fn.page l.page (flat_map (data_cell l.line) (take l.shown-index l.columns))
