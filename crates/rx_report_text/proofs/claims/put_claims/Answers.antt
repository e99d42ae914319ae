use Rattle.std.proofs.Common.{codes}
use Rattle.std.specs.List.{flat_map}
use Rattle.std.specs.Fmt.{decimal}
use Rattle.rx_report_text.specs.Claims.{claim_text, section_text}
use Rattle.rx_report_text.specs.Pages.{provider_text}
use Rattle.rx_report_text.specs.Rows.{titles_text}
use Rattle.rx_print.proofs.Written.{eight}
use Rattle.rx_report_text.proofs.claims.put_claims.Goals as goal

pub returns : goal.returns
unfolding section_text
returns c =
    eight c.args.page.now c.markup.new.self c.number.new.self c.markup-2.new.self c.put_provider_text.new.page c.markup-3.new.self
    c.put_titles.new.page c.put_each.new.page c.markup-4.new.self
    (codes "<section id=\"p")
    (decimal c.args.before)
    (codes "\">\n<h2>Provider ")
    (provider_text c.args.section.now.provider)
    (codes "</h2>\n")
    titles_text
    (flat_map (claim_text c.args.whys.now) c.args.section.now.lines.now)
    (codes "</table>\n</section>\n")
    c.markup.ensures
    c.number.ensures
    c.markup-2.ensures
    c.put_provider_text.ensures
    c.markup-3.ensures
    c.put_titles.ensures
    c.put_each.ensures
    c.markup-4.ensures
