use Rattle.std.proofs.Common.{codes}
use Rattle.rx_report_text.specs.Summary.{part_text, shares_text}
use Rattle.rx_print.proofs.Written.{six}
use Rattle.rx_report_text.proofs.summary.put_shares.Goals as goal

pub returns : goal.returns
unfolding shares_text
returns c =
    six c.args.page.now c.markup.new.self c.put_part.new.page c.put_part-2.new.page c.put_part-3.new.page c.put_part-4.new.page
    c.markup-2.new.self
    (codes "<div class=\"shares\">")
    (part_text (codes "paid") c.args.total.now.paid)
    (part_text (codes "duplicate") c.args.total.now.duplicate)
    (part_text (codes "reversed") c.args.total.now.approved)
    (part_text (codes "rejected") c.args.total.now.rejected)
    (codes "</div>\n")
    c.markup.ensures
    c.put_part.ensures
    c.put_part-2.ensures
    c.put_part-3.ensures
    c.put_part-4.ensures
    c.markup-2.ensures
