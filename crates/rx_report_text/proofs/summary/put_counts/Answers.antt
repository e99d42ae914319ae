use Rattle.std.proofs.Common.{codes}
use Rattle.rx_print.specs.Money.{signed_dollars}
use Rattle.rx_report_text.specs.Summary.{count_text, counts_text}
use Rattle.rx_settle.specs.Settlement.{net}
use Rattle.rx_print.proofs.Written.{eight}
use Rattle.rx_report_text.proofs.summary.put_counts.Goals as goal

pub returns : goal.returns
unfolding counts_text
returns c =
    eight c.args.page.now c.markup.new.self c.put_count.new.page c.put_count-2.new.page c.put_count-3.new.page c.put_count-4.new.page
    c.markup-2.new.self c.put_net_text.new.page c.markup-3.new.self
    (codes "<p class=\"sum\">")
    (count_text (codes "paid") c.args.total.now.paid)
    (count_text (codes "duplicate") c.args.total.now.duplicate)
    (count_text (codes "reversed") c.args.total.now.approved)
    (count_text (codes "rejected") c.args.total.now.rejected)
    (codes "<span>net <b>")
    (signed_dollars (net c.args.total.now))
    (codes "</b></span></p>\n")
    c.markup.ensures
    c.put_count.ensures
    c.put_count-2.ensures
    c.put_count-3.ensures
    c.put_count-4.ensures
    c.markup-2.ensures
    c.put_net_text.ensures
    c.markup-3.ensures
