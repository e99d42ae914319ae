use Rattle.std.proofs.Common.{eqb, rules}
use Rattle.std.proofs.lemmas.Iterator.Search.{all_from_yields_List}
use Rattle.std.proofs.lemmas.Iterator.Splits.{YieldsList-from_slice_split}
use borrow.Author.Tests.{tests}
use Rattle.rx_d0_reply.specs.Fault.{is_group}
use Rattle.rx_d0_reply.proofs.shape.are_all_groups.Goals as goal

pub returns : goal.returns
returns c =
    all_from_yields_List is_group _ _ _ c.all.ensures.ran
    (YieldsList-from_slice_split _ (λ b. eqb b 29) c.args.groups.now c.split.ensures.rest c.split.ensures.done c.split.ensures.closure
    (λ x b q k. search rules))
    (λ x b q k. search (rules, tests))
