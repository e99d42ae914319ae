use Rattle.std.proofs.Common.{eqb, drop, rules, ◌∙◌}
use Rattle.std.proofs.lemmas.Iterator.Consumers.{nth_from_yields_List}
use Rattle.std.proofs.lemmas.Iterator.Splits.{YieldsList-from_slice_split}
use Rattle.rx_explain_text.proofs.request_field.part_of.Goals as goal

pub returns : goal.returns
returns c =
    nth_from_yields_List c.nth.result c.nth.new.self c.args.nth c.nth.ensures.ran
    (YieldsList-from_slice_split _ (λ b. eqb b 29) (drop 56 c.args.request.now) (c.split.ensures.rest ∙ c.after_front.ensures)
    c.split.ensures.done c.split.ensures.closure (λ x b q k. search rules))
