use Rattle.rx_commands.specs.FamilyPage.{claim_row, place_cells, sum_cells}
use Rattle.rx_print.proofs.Written.{two}
use Rattle.rx_commands.proofs.family.page.put_row.Goals as goal

pub returns : goal.returns
unfolding claim_row
returns c =
    two c.args.page.now c.put_place.new.page c.put_amounts.new.page
    (place_cells c.args.claim.now.row)
    (sum_cells c.args.claim.now)
    c.put_place.ensures
    c.put_amounts.ensures
