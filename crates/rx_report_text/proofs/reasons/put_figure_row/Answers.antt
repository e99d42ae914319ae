use Rattle.std.proofs.Common.{codes}
use Rattle.rx_print.specs.Escape.{escaped}
use Rattle.rx_print.specs.declared.style.Style.TheVariants.{Html}
use Rattle.rx_report_text.specs.Reasons.{figure_row, label_cell}
use Rattle.rx_print.proofs.Written.{six}
use Rattle.rx_report_text.proofs.reasons.put_figure_row.Goals as goal

pub returns : goal.returns
unfolding figure_row
returns c =
    six c.args.page.now c.put_label.new.page c.markup.new.self c.escaped.new.self c.markup-2.new.self c.escaped-2.new.self
    c.markup-3.new.self
    (label_cell c.args.label.now)
    (codes "<td class=\"amount\">")
    (escaped Html c.args.amount.now)
    (codes "</td><td>")
    (escaped Html c.args.reason.now)
    (codes "</td></tr>\n")
    c.put_label.ensures
    c.markup.ensures
    c.escaped.ensures
    c.markup-2.ensures
    c.escaped-2.ensures
    c.markup-3.ensures
