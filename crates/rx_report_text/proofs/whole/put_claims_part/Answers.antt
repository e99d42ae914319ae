use Rattle.std.proofs.Common.{codes}
use Rattle.std.specs.List.{enumerate_from}
use Rattle.rx_report_text.specs.Claims.{sections_text}
use Rattle.rx_print.proofs.Written.{three}
use Rattle.rx_report_text.proofs.whole.put_claims_part.Goals as goal

pub returns : goal.returns
returns c =
    three c.args.page.now c.markup.new.self c.put_sections.new.page c.markup-2.new.self
    (codes "<div id=\"claims\">\n")
    (sections_text c.args.whys.now (enumerate_from 0 c.args.sections.now))
    (codes "</div>\n</main>\n")
    c.markup.ensures
    c.put_sections.ensures
    c.markup-2.ensures
