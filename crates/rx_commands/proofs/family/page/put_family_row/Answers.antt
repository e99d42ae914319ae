use Rattle.rx_commands.specs.FamilyPage.{family_row, total_cells}
use Rattle.rx_print.proofs.Written.{four}
use Rattle.std.proofs.Common.{codes}
use Rattle.rx_commands.proofs.family.page.put_family_row.Goals as goal

pub returns : goal.returns
unfolding family_row
returns c =
    four c.args.page.now c.markup.new.self c.markup-2.new.self c.markup-3.new.self c.put_total.new.page
    (codes "<tr><th scope=\"row\">")
    c.args.name.now
    (codes "</th><td></td>")
    (total_cells c.args.total.now)
    c.markup.ensures
    c.markup-2.ensures
    c.markup-3.ensures
    c.put_total.ensures
