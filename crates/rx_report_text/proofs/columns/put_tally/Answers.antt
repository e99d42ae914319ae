use Rattle.std.proofs.Common.{◌∷◌, []}
use Rattle.rx_print.proofs.Written.{three}
use Rattle.rx_print.specs.Money.{signed_dollars}
use Rattle.rx_settle.specs.Settlement.{net}
use Rattle.rx_report_text.specs.Columns.{tally_counts, tally_line}
use Rattle.rx_report_text.proofs.columns.put_tally.Goals as goal

pub returns : goal.returns
unfolding tally_line
returns c =
    three c.args.page.now c.put_counts.new.page c.put_net.new.page c.put.new.self
    (tally_counts c.args.tally.now)
    (signed_dollars (net c.args.tally.now))
    (10 ∷ [])
    c.put_counts.ensures
    c.put_net.ensures
    c.put.ensures
