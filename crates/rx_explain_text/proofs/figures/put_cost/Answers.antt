use Rattle.std.proofs.Common.{ap, codes, rules, ◌∙◌}
use Rattle.rx_explain_text.specs.Figures.{charge_cut, cost_line, labelled, priced_text, submitted_text}
use Rattle.rx_explain_text.specs.Said.{say}
use Rattle.rx_print.proofs.Written.{as_text, six}
use Rattle.rx_explain_text.proofs.figures.put_cost.Goals as goal

pub returns : goal.returns
unfolding cost_line
returns c =
    six c.args.page.now c.line.new.page c.say.new.self c.put_submitted.new.page c.put_priced.new.page c.put_cut.new.page
    c.say-2.new.self
    (labelled (codes "ingredient cost F6") c.args.workings.now.payment.pricing.ingredient_cost)
    (say "  ")
    (submitted_text c.args.bill.now.ingredient_cost c.args.workings.now.cost (codes "as submitted; the plan's price is ") (codes
    " submitted, paid by the plan's price: "))
    (priced_text c.args.bill.now c.args.workings.now)
    (charge_cut c.args.workings.now.payment.pricing.ingredient_cost c.args.workings.now.ingredient_cost)
    (say "\n")
    (as_text c.args.page.now c.line.new.page (ap (labelled (codes "ingredient cost F6")) (search rules)) c.line.ensures)
    c.say.ensures
    (as_text c.say.new.self c.put_submitted.new.page (ap (λ n. submitted_text n c.args.workings.now.cost (codes
    "as submitted; the plan's price is ") (codes " submitted, paid by the plan's price: ")) (search rules)) c.put_submitted.ensures)
    c.put_priced.ensures
    (as_text c.put_priced.new.page c.put_cut.new.page (ap (λ n. charge_cut n c.from.result) (search rules) ∙ ap (charge_cut
    c.args.workings.now.payment.pricing.ingredient_cost) (search rules)) c.put_cut.ensures)
    c.say-2.ensures
