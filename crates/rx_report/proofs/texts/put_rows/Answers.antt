use Rattle.rx_report.specs.Texts.{row}
use Rattle.rx_report.proofs.EachItem.{item_more}
use Rattle.rx_report.proofs.texts.put_rows.Goals as goal

pub loop-line-preserved : goal.loop-line-preserved
loop-line-preserved c =
    item_more (row c.args.lot c.args.stamp.now) c.args.page.now c.loop-line.page c.put_row.new.page
    c.args.lines.now c.line-item.result c.loop-line.line-index c.loop-line-test.true c.line-item.is
    c.loop-line.invariant c.put_row.ensures
