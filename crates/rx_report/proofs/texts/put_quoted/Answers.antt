use Rattle.rx_print.proofs.Written.{three}
use Rattle.rx_report.proofs.texts.put_quoted.Goals as goal

pub returns : goal.returns
returns c =
    three c.args.page.now c.put.new.self c.escaped.new.self c.put-2.new.self _ _ _
    c.put.ensures
    c.escaped.ensures
    c.put-2.ensures
