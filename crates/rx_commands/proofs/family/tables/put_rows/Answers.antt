use Rattle.rx_report.proofs.EachItem.{item_more}
use Rattle.rx_commands.specs.FamilyTables.{row}
use Rattle.rx_commands.proofs.family.tables.put_rows.Goals as goal

pub loop-claim-preserved : goal.loop-claim-preserved
loop-claim-preserved c =
    item_more row c.args.page.now c.loop-claim.page c.put_row.new.page
    c.args.claims.now c.claim-item.result c.loop-claim.claim-index c.loop-claim-test.true c.claim-item.is
    c.loop-claim.invariant c.put_row.ensures
