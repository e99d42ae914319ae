use Rattle.rx_commands.specs.FamilyColumns.{span_text}
use Rattle.rx_commands.specs.FamilyPage.{member_row, total_cells}
use Rattle.rx_print.specs.Escape.{escaped}
use Rattle.rx_print.specs.declared.style.Style.TheVariants.{Html}
use Rattle.rx_print.proofs.Written.{as_text, six}
use Rattle.std.proofs.Common.{ap, codes}
use Rattle.rx_commands.proofs.family.page.put_member.Goals as goal

pub returns : goal.returns
unfolding member_row
returns c =
    six c.args.page.now c.markup.new.self c.escaped.new.self c.markup-2.new.self c.put_span.new.page
    c.markup-3.new.self c.put_total.new.page
    (codes "<tr><th scope=\"row\">Deductible of ")
    (escaped Html c.args.shown.now.member.key.person)
    (codes "</th><td><i>Covered</i>")
    (span_text c.args.shown.now.member.coverage)
    (codes "</td>")
    (total_cells c.args.shown.now.deductible)
    c.markup.ensures
    (as_text c.markup.new.self c.escaped.new.self (ap (escaped Html) c.bytes.ensures.value) c.escaped.ensures)
    c.markup-2.ensures
    c.put_span.ensures
    c.markup-3.ensures
    c.put_total.ensures
