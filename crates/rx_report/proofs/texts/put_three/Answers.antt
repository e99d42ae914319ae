use Rattle.rx_print.proofs.Written.{six}
use Rattle.rx_report.proofs.texts.put_three.Goals as goal

pub returns : goal.returns
returns c =
    six c.args.page.now c.put.new.self c.put-2.new.self c.put-3.new.self c.put-4.new.self c.put-5.new.self c.put-6.new.self
    _ _ _ _ _ _
    c.put.ensures
    c.put-2.ensures
    c.put-3.ensures
    c.put-4.ensures
    c.put-5.ensures
    c.put-6.ensures
