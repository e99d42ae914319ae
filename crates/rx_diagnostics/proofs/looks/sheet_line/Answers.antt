use Rattle.std.proofs.Common.{eqb, rules}
use Rattle.std.proofs.lemmas.Iterator.Search.{find_from_yields_List}
use Rattle.std.proofs.lemmas.Iterator.Splits.{YieldsList-from_slice_split}
use borrow.Author.Tests.{tests}
use Rattle.rx_diagnostics.specs.Looks.{is_sheet_line}
use Rattle.rx_diagnostics.proofs.looks.sheet_line.Goals as goal

-- the lines that the iterator gives are those of the text
pub returns : goal.returns
returns c =
    find_from_yields_List is_sheet_line _ _ _ c.find.ensures.ran
    (YieldsList-from_slice_split _ (λ b. eqb b 10) c.args.text.now c.split.ensures.rest c.split.ensures.done
    c.split.ensures.closure (λ x b q k. search rules))
    (λ x b q k. search (rules, tests))
