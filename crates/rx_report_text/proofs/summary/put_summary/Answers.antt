use Rattle.rx_report_text.specs.Summary.{counts_text, shares_text}
use Rattle.rx_print.proofs.Written.{two}
use Rattle.rx_report_text.proofs.summary.put_summary.Goals as goal

pub returns : goal.returns
returns c =
    two c.args.page.now c.put_counts.new.page c.put_shares.new.page
    (counts_text c.args.total.now)
    (shares_text c.args.total.now)
    c.put_counts.ensures
    c.put_shares.ensures
