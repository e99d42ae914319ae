use Rattle.rx_print.proofs.Written.{eight, two}
use Rattle.rx_report_text.proofs.columns.put_counts.Goals as goal

pub returns : goal.returns
returns c =
    two c.args.page.now c.put.new.self c.put-5.new.self _ _
    c.put.ensures
    (eight c.put.new.self c.number.new.self c.put-2.new.self c.number-2.new.self c.put-3.new.self
    c.number-3.new.self c.put-4.new.self c.number-4.new.self c.put-5.new.self _ _ _ _ _ _ _ _
    c.number.ensures
    c.put-2.ensures
    c.number-2.ensures
    c.put-3.ensures
    c.number-3.ensures
    c.put-4.ensures
    c.number-4.ensures
    c.put-5.ensures)
