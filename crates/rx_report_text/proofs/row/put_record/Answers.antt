use Rattle.std.proofs.Common.{codes}
use Rattle.rx_report_text.specs.declared.shown.Shown.TheVariants.{Record}
use Rattle.rx_report_text.specs.Pages.{cell_text}
use Rattle.rx_report_text.specs.Rows.{group_front, record_text}
use Rattle.rx_print.proofs.Written.{seven}
use Rattle.rx_report_text.proofs.row.put_record.Goals as goal

pub returns : goal.returns
unfolding record_text
returns c =
    seven c.args.page.now c.put_group.new.page c.put_cell.new.page c.markup.new.self c.put_cell-2.new.page c.markup-2.new.self
    c.put_cell-3.new.page c.markup-3.new.self
    (group_front c.args.line.now.answer)
    (cell_text Record c.args.line.now)
    (codes "\">\n<tr><th scope=\"row\"><a href=\"#r")
    (cell_text Record c.args.line.now)
    (codes "\">")
    (cell_text Record c.args.line.now)
    (codes "</a></th>")
    c.put_group.ensures
    c.put_cell.ensures
    c.markup.ensures
    c.put_cell-2.ensures
    c.markup-2.ensures
    c.put_cell-3.ensures
    c.markup-3.ensures
