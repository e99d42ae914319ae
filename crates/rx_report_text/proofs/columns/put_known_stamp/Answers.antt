use Rattle.std.proofs.Common.{codes}
use Rattle.rx_print.proofs.Written.{as_text, three}
use Rattle.rx_report_text.specs.Stamps.{stamp_words}
use Rattle.rx_report_text.proofs.columns.put_known_stamp.Goals as goal

pub returns : goal.returns
returns c =
    three c.args.page.now c.put.new.self c.put-2.new.self c.put-3.new.self
    (codes "stamp ")
    (stamp_words c.args.stamp)
    (codes "\n\n")
    c.put.ensures
    (as_text c.put.new.self c.put-2.new.self c.stamp_words.ensures c.put-2.ensures)
    c.put-3.ensures
