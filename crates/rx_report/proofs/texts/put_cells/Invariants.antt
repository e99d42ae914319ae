use Rattle.std.proofs.Common.{take}
use Rattle.std.specs.List.{flat_map}
use Rattle.rx_print.specs.Page.{Writes}
use Rattle.rx_report.specs.Texts.{tab_cell}
use Rattle.rx_report.proofs.texts.put_cells.Given as goal

abbrev pub invariant-loop-column : goal.invariant-loop-column
invariant-loop-column l = Writes l.fn.page l.page (flat_map (tab_cell l.line) (take l.column-index l.columns))
