use Rattle.std.proofs.Common.{codes}
use Rattle.rx_report_text.specs.Reasons.{rows_text}
use Rattle.rx_print.proofs.Written.{four}
use Rattle.rx_report_text.proofs.reasons.put_reasons.Goals as goal

pub returns : goal.returns
returns c =
    four c.args.page.now c.markup.new.self c.markup-2.new.self c.put_rows.new.page c.markup-3.new.self
    (codes "<table class=\"reasons\">\n<thead><tr><th scope=\"col\">Figure</th><th scope=\"col\">Amount</th><th scope=\"col\">Reason</th>")
    (codes "</tr></thead>\n<tbody>\n")
    (rows_text c.args.text.now)
    (codes "</tbody>\n</table>")
    c.markup.ensures
    c.markup-2.ensures
    c.put_rows.ensures
    c.markup-3.ensures
