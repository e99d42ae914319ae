use Rattle.std.proofs.Common.{ap}
use Rattle.rx_report_text.specs.Layouts.{has_claims}
use Rattle.rx_report_text.specs.Providers.{table_text}
use Rattle.rx_report_text.specs.Rejects.{rejects_text}
use Rattle.rx_report_text.specs.Summary.{summary_text}
use Rattle.rx_report_text.specs.Whole.{below_table, end_text, head_text, title_text}
use Rattle.rx_print.proofs.Written.{as_text, seven}
use Rattle.rx_report_text.proofs.whole.put_page.Goals as goal

pub returns : goal.returns
returns c =
    seven c.args.page.now c.put_head.new.page c.put_title.new.page c.put_summary.new.page c.put_rejects.new.page
    c.put_providers.new.page c.put_below.new.page c.put_end.new.page
    (head_text c.args.layout c.args.head.now.lot)
    (title_text c.args.layout c.args.head.now c.args.portion)
    (summary_text c.args.total.now)
    (rejects_text (has_claims c.args.layout) c.args.sections.now)
    (table_text c.args.layout c.args.portion c.args.sections.now c.args.total.now)
    (below_table c.args.layout c.args.head.now c.args.sections.now c.args.whys.now)
    end_text
    c.put_head.ensures
    c.put_title.ensures
    c.put_summary.ensures
    (as_text c.put_summary.new.page c.put_rejects.new.page
    (ap (λ b. rejects_text b c.args.sections.now) c.has_claims.ensures) c.put_rejects.ensures)
    c.put_providers.ensures
    c.put_below.ensures
    c.put_end.ensures
