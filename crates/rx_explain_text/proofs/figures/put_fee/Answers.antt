use Rattle.std.proofs.Common.{ap, codes, rules, ◌∙◌}
use Rattle.rx_explain_text.specs.Figures.{charge_cut, fee_line, labelled, submitted_text}
use Rattle.rx_print.specs.Money.{money_text}
use Rattle.rx_explain_text.specs.Said.{say}
use Rattle.std.specs.Option.{unwrap_or}
use Rattle.rx_print.proofs.Written.{as_text, six}
use Rattle.rx_explain_text.proofs.figures.put_fee.Goals as goal

pub returns : goal.returns
unfolding fee_line
returns c =
    six c.args.page.now c.line.new.page c.say.new.self c.put_submitted.new.page c.money.new.self c.put_cut.new.page c.say-2.new.self
    (labelled (codes "dispensing fee F7") c.args.workings.now.payment.pricing.dispensing_fee)
    (say "  ")
    (submitted_text (unwrap_or c.args.bill.now.dispensing_fee 0) c.args.figures.now.fee (codes "as submitted; the plan's fee is ")
    (codes " submitted, paid by the plan's fee of "))
    (money_text c.args.figures.now.fee)
    (charge_cut c.args.workings.now.payment.pricing.dispensing_fee c.args.workings.now.dispensing_fee)
    (say "\n")
    (as_text c.args.page.now c.line.new.page (ap (labelled (codes "dispensing fee F7")) (search rules)) c.line.ensures)
    c.say.ensures
    (as_text c.say.new.self c.put_submitted.new.page (ap (λ n. submitted_text n c.args.figures.now.fee (codes
    "as submitted; the plan's fee is ") (codes " submitted, paid by the plan's fee of ")) (search rules)) c.put_submitted.ensures)
    (as_text c.put_submitted.new.page c.money.new.self (ap money_text (search rules)) c.money.ensures)
    (as_text c.money.new.self c.put_cut.new.page (ap (λ n. charge_cut n c.from-2.result) (search rules) ∙ ap (charge_cut
    c.args.workings.now.payment.pricing.dispensing_fee) (search rules)) c.put_cut.ensures)
    c.say-2.ensures
