use Rattle.std.proofs.Common.{eqb, ℕ, List, rules}
use Rattle.std.proofs.lemmas.Iterator.Consumers.{YieldsList-at, YieldsList-from_enumerate}
use Rattle.std.proofs.lemmas.Iterator.Search.{all_from_yields_List}
use Rattle.std.proofs.lemmas.Iterator.Splits.{YieldsList-from_slice_split}
use borrow.Author.Tests.{tests}
use Rattle.rx_d0_reply.specs.Fault.{is_labelled}
use Rattle.rx_d0_reply.proofs.shape.are_labelled.Goals as goal

pub returns : goal.returns
returns c =
    all_from_yields_List (λ (p : ℕ × List ℕ). is_labelled p.0 p.1) _ _ c.all.result c.all.ensures.ran
    (YieldsList-from_enumerate {s = c.enumerate.result}
    (YieldsList-at c.enumerate.ensures.source
    (YieldsList-from_slice_split _ (λ b. eqb b 30) c.args.segments.now c.split.ensures.rest c.split.ensures.done
    c.split.ensures.closure (λ x b q k. search rules)))
    c.enumerate.ensures.count)
    (λ x b q k. search (rules, tests))
