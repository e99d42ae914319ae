use Rattle.std.proofs.Common.{ap, codes, rules, ◌∙◌}
use Rattle.std.specs.Option.{option_copied}
use Rattle.rx_explain_text.specs.Figures.{allowed_of, copay_line, copay_text, labelled, maximum_cut, tier_words}
use Rattle.rx_print.proofs.Written.{as_text, four}
use Rattle.rx_explain_text.proofs.figures.put_copay.Goals as goal

pub returns : goal.returns
unfolding copay_line
returns c =
    four c.args.page.now c.line.new.page c.put_copay_of.new.page c.put_tier.new.page c.put_cut.new.page
    (labelled (codes "copay FI") c.args.workings.now.payment.pricing.copay)
    (copay_text c.args.cents (allowed_of c.args.workings.now) c.args.workings.now.under)
    (tier_words (option_copied c.args.tier))
    (maximum_cut c.args.workings.now.payment.pricing.copay c.args.workings.now.share)
    (as_text c.args.page.now c.line.new.page (ap (labelled (codes "copay FI")) (search rules)) c.line.ensures)
    (as_text c.line.new.page c.put_copay_of.new.page (ap (λ n. copay_text n c.allowed.result c.from-2.result) (search rules) ∙ ap (λ
    n. copay_text c.args.cents n c.from-2.result) (search rules) ∙ ap (copay_text c.args.cents (allowed_of c.args.workings.now))
    (search rules)) c.put_copay_of.ensures)
    c.put_tier.ensures
    (as_text c.put_tier.new.page c.put_cut.new.page (ap (λ n. maximum_cut n c.from-3.result) (search rules) ∙ ap (maximum_cut
    c.args.workings.now.payment.pricing.copay) (search rules)) c.put_cut.ensures)
