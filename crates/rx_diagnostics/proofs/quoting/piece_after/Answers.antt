use Rattle.std.proofs.Common.{eqb, rules}
use Rattle.std.proofs.lemmas.Iterator.Consumers.{nth_from_yields_List}
use Rattle.std.proofs.lemmas.Iterator.Splits.{YieldsList-from_slice_split}
use Rattle.rx_diagnostics.proofs.quoting.piece_after.Goals as goal

-- the pieces that the iterator gives are those of the text
pub returns : goal.returns
returns c =
    nth_from_yields_List c.nth.result c.nth.new.self c.args.others c.nth.ensures.ran
    (YieldsList-from_slice_split _ (λ b. eqb b c.args.separator) c.args.text.now c.split.ensures.rest
    c.split.ensures.done c.split.ensures.closure (λ x b q k. search rules))
