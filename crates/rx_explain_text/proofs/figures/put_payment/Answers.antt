use Rattle.std.proofs.Common.{ap, codes, rules, ◌∙◌}
use Rattle.std.specs.Option.{option_copied}
use Rattle.rx_explain_text.specs.Figures.{labelled, maximum_due, payer_lines, payment_lines, share_line}
use Rattle.rx_explain_text.specs.Said.{say}
use Rattle.rx_print.proofs.Written.{as_text, six}
use Rattle.rx_explain_text.proofs.figures.put_payment.Goals as goal

pub returns : goal.returns
unfolding payment_lines
returns c =
    six c.args.page.now c.line.new.page c.put_due.new.page c.say.new.self c.put_share.new.page c.say-2.new.self c.put_payers.new.page
    (labelled (codes "deductible FH") c.args.workings.now.payment.pricing.deductible)
    (maximum_due c.args.workings.now.payment.pricing.deductible c.args.workings.now.under)
    (say "\n")
    (share_line (option_copied c.args.tier) c.args.workings.now.payment.drug.share c.args.workings.now)
    (say "\n")
    (payer_lines c.args.workings.now)
    (as_text c.args.page.now c.line.new.page (ap (labelled (codes "deductible FH")) (search rules)) c.line.ensures)
    (as_text c.line.new.page c.put_due.new.page (ap (λ n. maximum_due n c.from.result) (search rules) ∙ ap (maximum_due
    c.args.workings.now.payment.pricing.deductible) (search rules)) c.put_due.ensures)
    c.say.ensures
    c.put_share.ensures
    c.say-2.ensures
    c.put_payers.ensures
