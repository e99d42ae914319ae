use Rattle.std.proofs.Common.{codes}
use Rattle.rx_print.proofs.Written.{three}
use Rattle.rx_report.specs.Texts.{lot_json, lot_members}
use Rattle.rx_report.proofs.claims.put_lot.Goals as goal

pub returns : goal.returns
unfolding lot_json
returns c =
    three c.args.page.now c.put.new.self c.put_lot_members.new.page c.put-2.new.self
    (codes "\"lot\":{")
    (lot_members c.args.lot)
    (codes "}")
    c.put.ensures
    c.put_lot_members.ensures
    c.put-2.ensures
