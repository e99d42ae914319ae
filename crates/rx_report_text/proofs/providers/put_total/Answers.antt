use Rattle.std.proofs.Common.{codes}
use Rattle.rx_report_text.specs.Providers.{scope_text, tally_text, total_text}
use Rattle.rx_print.proofs.Written.{as_text, five}
use Rattle.rx_report_text.proofs.providers.put_total.Goals as goal

pub returns : goal.returns
unfolding total_text
returns c =
    five c.args.page.now c.markup.new.self c.markup-2.new.self c.markup-3.new.self c.put_tally.new.page c.markup-4.new.self
    (codes "</tbody>\n<tfoot><tr><th scope=\"row\">")
    (scope_text c.args.layout c.args.portion)
    (codes "</th>")
    (tally_text c.args.total.now)
    (codes "<td class=\"bar\"></td></tr></tfoot>\n</table>\n")
    c.markup.ensures
    (as_text c.markup.new.self c.markup-2.new.self c.scope_text.ensures c.markup-2.ensures)
    c.markup-3.ensures
    c.put_tally.ensures
    c.markup-4.ensures
