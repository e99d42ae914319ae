use Rattle.std.proofs.Common.{codes}
use Rattle.std.specs.List.{flat_map}
use Rattle.rx_report_text.specs.Rows.{answer_cell, data_cell, record_text, row_columns, row_text}
use Rattle.rx_print.proofs.Written.{four}
use Rattle.rx_report_text.proofs.row.put_row.Goals as goal

pub returns : goal.returns
unfolding row_text
returns c =
    four c.args.page.now c.put_record.new.page c.put_answer.new.page c.put_cells.new.page c.markup.new.self
    (record_text c.args.line.now)
    (answer_cell c.args.line.now.answer)
    (flat_map (data_cell c.args.line.now) row_columns)
    (codes "</tr>\n")
    c.put_record.ensures
    c.put_answer.ensures
    c.put_cells.ensures
    c.markup.ensures
