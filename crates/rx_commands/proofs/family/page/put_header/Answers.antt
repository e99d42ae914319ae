use Rattle.rx_commands.specs.FamilyColumns.{span_text}
use Rattle.rx_commands.specs.FamilyPage.{header_text, source_text}
use Rattle.rx_print.specs.Escape.{escaped}
use Rattle.rx_print.specs.declared.style.Style.TheVariants.{Html}
use Rattle.rx_print.proofs.Written.{seven}
use Rattle.std.proofs.Common.{codes}
use Rattle.rx_commands.proofs.family.page.put_header.Goals as goal

pub returns : goal.returns
unfolding header_text
returns c =
    seven c.args.page.now c.markup.new.self c.put_name.new.page c.markup-2.new.self c.put_span.new.page
    c.markup-3.new.self c.put_source.new.page c.markup-4.new.self
    (codes "<header>\n<h1>Family ")
    (escaped Html c.args.family.now.id)
    (codes "</h1>\n<p>benefit period ")
    (span_text c.args.family.now.period)
    (codes "</p>\n")
    (source_text c.args.origin.now)
    (codes "</header>\n<main>\n")
    c.markup.ensures
    c.put_name.ensures
    c.markup-2.ensures
    c.put_span.ensures
    c.markup-3.ensures
    c.put_source.ensures
    c.markup-4.ensures
