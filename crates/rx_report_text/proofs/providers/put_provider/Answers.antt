use Rattle.std.proofs.Common.{codes}
use Rattle.rx_report_text.specs.Providers.{bar_text, name_text, row_text, tally_text}
use Rattle.rx_print.proofs.Written.{six}
use Rattle.rx_report_text.proofs.providers.put_provider.Goals as goal

pub returns : goal.returns
unfolding row_text
returns c =
    six c.args.page.now c.markup.new.self c.put_name.new.page c.markup-2.new.self c.put_tally.new.page c.put_bar.new.page
    c.markup-3.new.self
    (codes "<tr><th scope=\"row\">")
    (name_text c.args.layout c.args.before c.args.section.now.provider)
    (codes "</th>")
    (tally_text c.args.section.now.tally)
    (bar_text c.args.longest c.args.section.now.tally)
    (codes "</tr>\n")
    c.markup.ensures
    c.put_name.ensures
    c.markup-2.ensures
    c.put_tally.ensures
    c.put_bar.ensures
    c.markup-3.ensures
