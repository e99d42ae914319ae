use Rattle.std.proofs.Common.{codes}
use Rattle.rx_report_text.specs.Claims.{claim_text, figures_of}
use Rattle.rx_report_text.specs.Reasons.{reason_text}
use Rattle.rx_report_text.specs.Rows.{row_text}
use Rattle.rx_print.proofs.Written.{six}
use Rattle.rx_report_text.proofs.claims.put_claim.Goals as goal

pub returns : goal.returns
unfolding claim_text
returns c =
    six c.args.page.now c.put_row.new.page c.markup.new.self c.put_figures.new.page c.markup-2.new.self c.put_reason.new.page
    c.markup-3.new.self
    (row_text c.args.line.now)
    (codes "<tr class=\"why\"><td colspan=\"11\"><details><summary>Why</summary>\n<dl>")
    (figures_of c.args.line.now.answer c.args.line.now)
    (codes "</dl>\n")
    (reason_text c.args.whys.now c.args.line.now)
    (codes "</details></td></tr>\n</tbody>\n")
    c.put_row.ensures
    c.markup.ensures
    c.put_figures.ensures
    c.markup-2.ensures
    c.put_reason.ensures
    c.markup-3.ensures
