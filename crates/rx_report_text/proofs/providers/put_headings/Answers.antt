use Rattle.std.proofs.Common.{codes}
use Rattle.rx_report_text.specs.Providers.{caption_text}
use Rattle.rx_print.proofs.Written.{as_text, four}
use Rattle.rx_report_text.proofs.providers.put_headings.Goals as goal

pub returns : goal.returns
returns c =
    four c.args.page.now c.markup.new.self c.markup-2.new.self c.markup-3.new.self c.markup-4.new.self
    (caption_text c.args.layout)
    (codes "<th scope=\"col\">Provider</th><th scope=\"col\">Paid</th>")
    (codes "<th scope=\"col\">Duplicate</th><th scope=\"col\">Reversed</th><th scope=\"col\">Rejected</th>")
    (codes "<th scope=\"col\">Net</th><th scope=\"col\">Net as a bar</th></tr></thead>\n<tbody>\n")
    (as_text c.args.page.now c.markup.new.self c.caption_text.ensures c.markup.ensures)
    c.markup-2.ensures
    c.markup-3.ensures
    c.markup-4.ensures
