use Rattle.std.proofs.Common.{codes}
use Rattle.rx_print.proofs.Written.{three}
use Rattle.rx_report.specs.Texts.{batch_json, lot_json, stamp_value}
use Rattle.rx_report.proofs.claims.put_batch.Goals as goal

pub returns : goal.returns
unfolding batch_json
returns c =
    three c.args.page.now c.put_lot.new.page c.put.new.self c.put_stamp.new.page
    (lot_json c.args.lot)
    (codes ",\"stamp\":")
    (stamp_value c.args.stamp.now)
    c.put_lot.ensures
    c.put.ensures
    c.put_stamp.ensures
