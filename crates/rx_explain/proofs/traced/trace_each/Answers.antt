-- One more row, traced; after the last, each is.
use Rattle.std.proofs.Common.{◌<◌, ◌++◌, ◌∷◌, ◌∙◌, [], ap, arith, length, map, sym, take}
use Rattle.std.proofs.lemmas.List.{take_all}
use Rattle.rx_explain.specs.Traces.{traced}
use Rattle.rx_explain.proofs.Counted.{mapped_more}
use Rattle.rx_explain.proofs.traced.trace_each.Goals as goal

pub loop-row-init : goal.loop-row-init
loop-row-init c = c.in_ok-all.ensures.items

pub loop-row-preserved : goal.loop-row-preserved
loop-row-preserved c =
    let rows = c.args.rows.now in
    let i = c.loop-row.row-index in
    let f = traced c.args.events.now c.args.at in
    let within : i < length rows = omega arith in
    c.in_ok-push.ensures.items
    ∙ ap (λ xs. xs ++ c.trace.result ∷ []) c.loop-row.invariant
    ∙ ap (λ t. map f (take i rows) ++ t ∷ []) c.trace.ensures
    ∙ sym (mapped_more f rows i c.row-item.result within c.row-item.is)

pub returns : goal.returns
returns c =
    let rows = c.args.rows.now in
    c.loop-row.invariant ∙ ap (map (traced c.args.events.now c.args.at)) (take_all c.loop-row.row-index rows (omega arith))
