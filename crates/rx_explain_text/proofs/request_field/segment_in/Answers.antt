use Rattle.std.proofs.Common.{eqb, rules}
use Rattle.std.proofs.lemmas.Iterator.Search.{find_from_yields_List}
use Rattle.std.proofs.lemmas.Iterator.Splits.{YieldsList-from_slice_split}
use borrow.Author.Tests.{tests}
use Rattle.rx_explain_text.specs.RequestField.{has_field}
use Rattle.rx_explain_text.proofs.request_field.segment_in.Goals as goal

pub returns : goal.returns
returns c =
    find_from_yields_List (has_field c.args.name c.args.id) _ _ _ c.find.ensures.ran
    (YieldsList-from_slice_split _ (λ b. eqb b 30) c.args.part.now c.split.ensures.rest c.split.ensures.done c.split.ensures.closure
    (λ x b q k. search rules))
    (λ x b q k. search (rules, tests))
