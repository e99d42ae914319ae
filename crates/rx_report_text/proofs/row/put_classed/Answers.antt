use Rattle.std.proofs.Common.{codes}
use Rattle.rx_report_text.specs.Pages.{cell_text}
use Rattle.rx_print.proofs.Written.{five}
use Rattle.rx_report_text.proofs.row.put_classed.Goals as goal

pub returns : goal.returns
returns c =
    five c.args.page.now c.markup.new.self c.markup-2.new.self c.markup-3.new.self c.put_cell.new.page c.markup-4.new.self
    (codes "<td class=\"")
    c.args.class.now
    (codes "\">")
    (cell_text c.args.shown c.args.line.now)
    (codes "</td>")
    c.markup.ensures
    c.markup-2.ensures
    c.markup-3.ensures
    c.put_cell.ensures
    c.markup-4.ensures
