use Rattle.rx_commands.specs.FamilyPage.{amount_cell, fill_cell, left_amount, total_cells}
use Rattle.rx_print.proofs.Written.{three}
use Rattle.std.proofs.Common.{codes}
use Rattle.rx_commands.proofs.family.page.put_total.Goals as goal

pub returns : goal.returns
unfolding total_cells
returns c =
    three c.args.page.now c.put_amount.new.page c.put_left.new.page c.put_reached.new.page
    (amount_cell (codes "<td><i>Amount</i>") c.args.total.now.sum)
    (left_amount c.args.total.now.left)
    (fill_cell c.args.total.now.reached)
    c.put_amount.ensures
    c.put_left.ensures
    c.put_reached.ensures
