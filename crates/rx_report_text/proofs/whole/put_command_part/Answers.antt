use Rattle.std.proofs.Common.{codes}
use Rattle.rx_report_text.specs.Whole.{too_many_text}
use Rattle.rx_print.proofs.Written.{three}
use Rattle.rx_report_text.proofs.whole.put_command_part.Goals as goal

pub returns : goal.returns
returns c =
    three c.args.page.now c.markup.new.self c.put_command.new.page c.markup-2.new.self
    (codes "<div id=\"claims\">\n")
    (too_many_text c.args.origin.now)
    (codes "</div>\n</main>\n")
    c.markup.ensures
    c.put_command.ensures
    c.markup-2.ensures
