use Rattle.std.proofs.Common.{take}
use Rattle.std.specs.List.{flat_map}
use Rattle.rx_print.specs.Page.{Writes}
use Rattle.rx_report_text.specs.Columns.{heading_cell}
use Rattle.rx_report_text.proofs.columns.put_heading_cells.Given as goal

abbrev pub invariant-loop-column : goal.invariant-loop-column
invariant-loop-column l = Writes l.fn.cells l.cells (flat_map heading_cell (take l.column-index l.columns))
