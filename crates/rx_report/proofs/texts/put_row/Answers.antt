use Rattle.std.proofs.Common.{◌∷◌, []}
use Rattle.std.specs.List.{flat_map}
use Rattle.rx_print.proofs.Written.{four}
use Rattle.rx_report.specs.Cells.{cell, others}
use Rattle.rx_report.specs.Texts.{batch_cells, tab_cell}
use Rattle.rx_report.specs.declared.column.Column.TheVariants as column
use Rattle.rx_report.proofs.texts.put_row.Goals as goal

pub returns : goal.returns
returns c =
    four c.args.page.now c.put_cell.new.page c.put_cells.new.page c.put_batch_cells.new.page c.put.new.self
    (cell column.Place c.args.line.now)
    (flat_map (tab_cell c.args.line.now) others)
    (batch_cells c.args.lot c.args.stamp.now)
    (10 ∷ [])
    c.put_cell.ensures
    c.put_cells.ensures
    c.put_batch_cells.ensures
    c.put.ensures
