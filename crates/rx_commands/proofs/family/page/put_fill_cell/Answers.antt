use Rattle.rx_commands.specs.FamilyColumns.{fill_text}
use Rattle.rx_commands.specs.FamilyPage.{reached_with}
use Rattle.rx_print.specs.declared.style.Style.TheVariants.{Html}
use Rattle.rx_print.proofs.Written.{three}
use Rattle.std.proofs.Common.{codes}
use Rattle.rx_commands.proofs.family.page.put_fill_cell.Goals as goal

pub returns : goal.returns
unfolding reached_with
returns c =
    three c.args.page.now c.markup.new.self c.put_fill.new.page c.markup-2.new.self
    (codes "<td><i>Reached with</i>")
    (fill_text Html c.args.row.now)
    (codes "</td></tr>\n")
    c.markup.ensures
    c.put_fill.ensures
    c.markup-2.ensures
