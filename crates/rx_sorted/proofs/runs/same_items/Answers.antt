use Rattle.std.proofs.Common.{◌+◌, drop, sym, ap, ◌∙◌}
use Rattle.std.specs.Prelude.{◌&&◌}
use Rattle.std.specs.Cmp.Lexicographic.{pointwise}
use Rattle.std.proofs.lemmas.Bool.{and_left}
use Rattle.rx_sorted.specs.Runs.{items_of}
use Rattle.rx_sorted.proofs.InRuns.{false-from_not, pointwise_from, true-from_not}
use Rattle.rx_sorted.proofs.runs.same_items.Goals as goal

pub returns-then-ne : goal.returns-then-ne
returns-then-ne g c =
    let E = g.T.PartialEq.eq in
    let ours = items_of c.args.runs.now in
    let theirs = items_of c.args.others.now in
    let x = c.item_of.result.now in
    let y = c.item_of-in-loop-place.result.now in
    let rest = pointwise E (drop (c.loop-place.place + 1) ours) (drop (c.loop-place.place + 1) theirs) in
    let other = false-from_not (E x y) (sym c.ne.ensures ∙ c.if-ne.true) in
    sym (pointwise_from E ours theirs c.loop-place.place x y c.item_of.ensures c.item_of-in-loop-place.ensures
    ∙ and_left (E x y) rest other) ∙ c.loop-place.invariant

pub loop-place-preserved : goal.loop-place-preserved
loop-place-preserved g c =
    let E = g.T.PartialEq.eq in
    let ours = items_of c.args.runs.now in
    let theirs = items_of c.args.others.now in
    let x = c.item_of.result.now in
    let y = c.item_of-in-loop-place.result.now in
    let rest = pointwise E (drop (c.loop-place.place + 1) ours) (drop (c.loop-place.place + 1) theirs) in
    let same = true-from_not (E x y) (sym c.ne.ensures ∙ c.if-ne.false) in
    sym (pointwise_from E ours theirs c.loop-place.place x y c.item_of.ensures c.item_of-in-loop-place.ensures
    ∙ ap (λ b. b && rest) same) ∙ c.loop-place.invariant
