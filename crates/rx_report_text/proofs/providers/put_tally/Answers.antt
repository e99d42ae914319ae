use Rattle.std.proofs.Common.{codes}
use Rattle.rx_report_text.specs.Providers.{count_text, net_cell, tally_text}
use Rattle.rx_print.proofs.Written.{five}
use Rattle.rx_report_text.proofs.providers.put_tally.Goals as goal

pub returns : goal.returns
unfolding tally_text
returns c =
    five c.args.page.now c.put_count.new.page c.put_count-2.new.page c.put_count-3.new.page c.put_count-4.new.page c.put_net.new.page
    (count_text (codes "<td><i>Paid</i>") c.args.tally.now.paid)
    (count_text (codes "<td><i>Duplicate</i>") c.args.tally.now.duplicate)
    (count_text (codes "<td><i>Reversed</i>") c.args.tally.now.approved)
    (count_text (codes "<td><i>Rejected</i>") c.args.tally.now.rejected)
    (net_cell c.args.tally.now)
    c.put_count.ensures
    c.put_count-2.ensures
    c.put_count-3.ensures
    c.put_count-4.ensures
    c.put_net.ensures
