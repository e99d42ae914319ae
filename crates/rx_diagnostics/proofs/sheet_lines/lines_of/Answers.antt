use Rattle.std.proofs.Common.{eqb, rules}
use Rattle.std.proofs.lemmas.Iterator.Consumers.{map_from_collect}
use Rattle.std.proofs.lemmas.Iterator.Splits.{YieldsList-from_slice_split}
use Rattle.rx_diagnostics.proofs.sheet_lines.lines_of.Goals as goal

-- the lines that the iterator gives are those of the text
pub returns : goal.returns
returns c =
    map_from_collect c.collect.result c.collect.ensures.ran
    (YieldsList-from_slice_split _ (λ b. eqb b 10) c.args.text.now c.split.ensures.rest c.split.ensures.done
    c.split.ensures.closure (λ x b q k. search rules))
