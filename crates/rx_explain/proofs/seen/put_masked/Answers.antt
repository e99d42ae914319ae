-- One more claim, masked; after the last, each is.
use Rattle.std.proofs.Common.{◌<◌, ◌++◌, ◌∷◌, ◌∙◌, [], ap, append_assoc, arith, length, map, sym, take}
use Rattle.std.proofs.lemmas.List.{append-nil, take_all}
use Rattle.rx_explain.specs.Seen.{masked}
use Rattle.rx_explain.proofs.Counted.{mapped_more}
use Rattle.rx_explain.proofs.seen.put_masked.Goals as goal

pub loop-traced-init : goal.loop-traced-init
loop-traced-init c = sym (append-nil c.args.shown.now.items)

pub loop-traced-preserved : goal.loop-traced-preserved
loop-traced-preserved c =
    let others = c.args.others.now in
    let i = c.loop-traced.traced-index in
    let before = c.args.shown.now.items in
    let f = masked c.args.explanation.now c.args.bill.now in
    let within : i < length others = omega arith in
    let more = ap (λ t. map f (take i others) ++ t ∷ []) c.masked.ensures
    ∙ sym (mapped_more f others i c.traced-item.result within c.traced-item.is) in
    c.in_ok-push.ensures.items
    ∙ ap (λ xs. xs ++ c.masked.result ∷ []) c.loop-traced.invariant
    ∙ append_assoc before (map f (take i others)) (c.masked.result ∷ [])
    ∙ ap (λ xs. before ++ xs) more

pub returns : goal.returns
returns c =
    let others = c.args.others.now in
    let f = masked c.args.explanation.now c.args.bill.now in
    c.loop-traced.invariant
    ∙ ap (λ xs. c.args.shown.now.items ++ map f xs) (take_all c.loop-traced.traced-index others (omega arith))
