use Rattle.std.proofs.Common.{codes}
use Rattle.rx_report_text.specs.declared.shown.Shown.TheVariants as shown
use Rattle.rx_report_text.specs.Claims.{amounts_text, figure_text}
use Rattle.rx_print.proofs.Written.{six}
use Rattle.rx_report_text.proofs.claims.put_amounts.Goals as goal

pub returns : goal.returns
unfolding amounts_text
returns c =
    six c.args.page.now c.put_figure.new.page c.put_figure-2.new.page c.put_figure-3.new.page c.put_figure-4.new.page
    c.put_figure-5.new.page c.put_figure-6.new.page
    (figure_text (codes "Allowed") shown.Allowed c.args.line.now)
    (figure_text (codes "Deductible") shown.Deductible c.args.line.now)
    (figure_text (codes "Copay") shown.Copay c.args.line.now)
    (figure_text (codes "Coinsurance") shown.Coinsurance c.args.line.now)
    (figure_text (codes "Member pays") shown.MemberPays c.args.line.now)
    (figure_text c.args.paid.now shown.PlanPays c.args.line.now)
    c.put_figure.ensures
    c.put_figure-2.ensures
    c.put_figure-3.ensures
    c.put_figure-4.ensures
    c.put_figure-5.ensures
    c.put_figure-6.ensures
