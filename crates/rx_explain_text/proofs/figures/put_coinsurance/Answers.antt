use Rattle.std.proofs.Common.{ap, codes, rules, ◌∙◌}
use Rattle.std.specs.Option.{option_copied}
use Rattle.rx_explain_text.specs.Figures.{coinsurance_line, labelled, maximum_cut, percent_text, tier_words}
use Rattle.rx_print.proofs.Written.{as_text, four}
use Rattle.rx_explain_text.proofs.figures.put_coinsurance.Goals as goal

pub returns : goal.returns
unfolding coinsurance_line
returns c =
    four c.args.page.now c.line.new.page c.put_percent_of.new.page c.put_tier.new.page c.put_cut.new.page
    (labelled (codes "coinsurance 4U") c.args.workings.now.payment.pricing.coinsurance)
    (percent_text c.args.percent c.args.workings.now)
    (tier_words (option_copied c.args.tier))
    (maximum_cut c.args.workings.now.payment.pricing.coinsurance c.args.workings.now.share)
    (as_text c.args.page.now c.line.new.page (ap (labelled (codes "coinsurance 4U")) (search rules)) c.line.ensures)
    c.put_percent_of.ensures
    c.put_tier.ensures
    (as_text c.put_tier.new.page c.put_cut.new.page (ap (λ n. maximum_cut n c.from.result) (search rules) ∙ ap (maximum_cut
    c.args.workings.now.payment.pricing.coinsurance) (search rules)) c.put_cut.ensures)
