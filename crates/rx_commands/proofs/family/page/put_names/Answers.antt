use Rattle.rx_commands.specs.FamilyCells.{reached_cell}
use Rattle.rx_print.proofs.Written.{as_text, three}
use Rattle.std.proofs.Common.{codes}
use Rattle.rx_commands.proofs.family.page.put_names.Goals as goal

pub returns : goal.returns
returns c =
    three c.args.page.now c.markup.new.self c.put.new.self c.markup-2.new.self
    (codes "<td><i>Reaches</i>")
    (reached_cell c.args.claim.now)
    (codes "</td></tr>\n")
    c.markup.ensures
    (as_text c.markup.new.self c.put.new.self c.reached_names.ensures c.put.ensures)
    c.markup-2.ensures
