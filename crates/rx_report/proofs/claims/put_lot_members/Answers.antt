use Rattle.std.proofs.Common.{codes}
use Rattle.rx_fields.specs.Digits.{digits_text}
use Rattle.rx_print.proofs.Written.{four}
use Rattle.rx_print.specs.Dates.{dashed}
use Rattle.rx_report.specs.Texts.{quoted}
use Rattle.rx_report.proofs.claims.put_lot_members.Goals as goal

pub returns : goal.returns
returns c =
    four c.args.page.now c.put.new.self c.put_number.new.page c.put-2.new.self c.put_day.new.page
    (codes "\"number\":")
    (quoted (digits_text 7 c.args.lot.number))
    (codes ",\"created\":")
    (quoted (dashed c.args.lot.created))
    c.put.ensures
    c.put_number.ensures
    c.put-2.ensures
    c.put_day.ensures
