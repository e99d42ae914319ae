use Rattle.std.proofs.Common.{ap, codes, rules}
use Rattle.rx_d0_values.specs.Priced.{patient_pay, total_paid}
use Rattle.rx_explain_text.specs.Figures.{payer_lines, pays_line}
use Rattle.rx_print.proofs.Written.{as_text, two}
use Rattle.rx_explain_text.proofs.figures.put_payers.Goals as goal

pub returns : goal.returns
unfolding payer_lines
returns c =
    two c.args.page.now c.put_pays.new.page c.put_pays-2.new.page
    (pays_line (codes "member pays F5") (patient_pay c.args.workings.now.payment.pricing))
    (pays_line (codes "plan pays F9") (total_paid c.args.workings.now.payment.pricing))
    (as_text c.args.page.now c.put_pays.new.page (ap (pays_line (codes "member pays F5")) (search rules)) c.put_pays.ensures)
    (as_text c.put_pays.new.page c.put_pays-2.new.page (ap (pays_line (codes "plan pays F9")) (search rules)) c.put_pays-2.ensures)
