use Rattle.std.proofs.Common.{codes}
use Rattle.rx_print.proofs.Written.{five}
use Rattle.rx_report.specs.Texts.{batch_json}
use Rattle.rx_report_text.specs.Json.{tally_json}
use Rattle.rx_report_text.proofs.json.put_end.Goals as goal

pub returns : goal.returns
returns c =
    five c.args.page.now c.put.new.self c.put_tally.new.page c.put-2.new.self c.put_batch.new.page c.put-3.new.self
    (codes "],\"total\":{")
    (tally_json c.args.total.now)
    (codes "},")
    (batch_json c.args.lot c.args.stamp.now)
    (codes "}\n")
    c.put.ensures
    c.put_tally.ensures
    c.put-2.ensures
    c.put_batch.ensures
    c.put-3.ensures
