use Rattle.std.proofs.Common.{◌∷◌, []}
use Rattle.rx_print.proofs.Written.{three}
use Rattle.rx_report.specs.Cells.{cell}
use Rattle.rx_report.specs.declared.column.Column.TheVariants.{Nth, Place}
use Rattle.rx_report_text.proofs.shown.put_record.Goals as goal

pub returns : goal.returns
returns c =
    three c.args.page.now c.put_cell.new.page c.put.new.self c.put_cell-2.new.page
    (cell Place c.args.line.now)
    (46 ∷ [])
    (cell Nth c.args.line.now)
    c.put_cell.ensures
    c.put.ensures
    c.put_cell-2.ensures
