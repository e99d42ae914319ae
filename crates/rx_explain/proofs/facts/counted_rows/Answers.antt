-- One more row is one that counts, or another; after the last, each was seen.
use Rattle.std.proofs.Common.{◌<◌, ◌∙◌, ◌++◌, ◌∷◌, [], filter, length, sym, ap, arith}
use Rattle.std.proofs.lemmas.List.{take_all}
use Rattle.rx_explain.specs.Shown.{is_counted}
use Rattle.rx_explain.proofs.Counted.{filter_no, filter_yes}
use Rattle.rx_explain.proofs.facts.counted_rows.Goals as goal
use Rattle.rx_explain.proofs.facts.counted_rows.Goals.{then-is_counted+in_ok-push, else-is_counted}

pub loop-row-init : goal.loop-row-init
loop-row-init c = c.new-counted.ensures.items

pub loop-row-preserved : goal.loop-row-preserved
loop-row-preserved c =
    let rows = c.args.rows.now in
    let i = c.loop-row.row-index in
    let r = c.row-item.result in
    let p = is_counted c.args.period c.args.family.now in
    let within : i < length rows = omega arith in
    elim c.if-is_counted.branch [
      | then-is_counted+in_ok-push w ↦
          ap (λ v. v.items) w.counted-is ∙ w.in_ok-push.ensures.items
          ∙ ap (λ xs. xs ++ r ∷ []) c.loop-row.invariant
          ∙ sym (filter_yes p rows i r within c.row-item.is (sym w.if-is_counted.ensures))
      | else-is_counted w ↦
          ap (λ v. v.items) w.counted-is ∙ c.loop-row.invariant
          ∙ sym (filter_no p rows i r within c.row-item.is (sym w.if-is_counted.ensures))
    ]

pub returns : goal.returns
returns c =
    c.loop-row.invariant
    ∙ ap (filter (is_counted c.args.period c.args.family.now)) (take_all c.loop-row.row-index c.args.rows.now (omega arith))
