-- One more row is an early fill, or another; the early fills are those of the family that are too soon.
use Rattle.std.proofs.Common.{◌<◌, ◌∙◌, ◌∷◌, [], None, length, sym, take, ap, arith}
use Rattle.std.specs.List.{filter, fold}
use Rattle.std.proofs.lemmas.List.{take_all}
use Rattle.std.proofs.lemmas.List.Sums.{fold-append}
use Rattle.rx_ledger.specs.Decisions.{is_too_soon}
use Rattle.rx_ledger.specs.Rows.{claimed_by}
use Rattle.rx_explain.specs.Opens.{is_early_fill}
use Rattle.rx_explain.specs.Shown.{fill_cmp, first_with}
use Rattle.rx_explain.proofs.Counted.{filter_both, filter_no, filter_yes}
use Rattle.rx_explain.proofs.family.longest_fill.Goals as goal
use Rattle.rx_explain.proofs.family.longest_fill.Goals.{then-is_early_fill, else-is_early_fill}

pub loop-row-preserved : goal.loop-row-preserved
loop-row-preserved c =
    let rows = c.args.rows.now in
    let i = c.loop-row.row-index in
    let r = c.row-item.result in
    let f = c.args.figures.now in
    let own = c.args.provider.now in
    let p = is_early_fill f c.args.date c.args.bill.now in
    let within : i < length rows = omega arith in
    elim c.if-is_early_fill.branch [
      | then-is_early_fill w ↦
          w.longest-is ∙ w.longest_with-longest.ensures ∙ ap (λ best. first_with (fill_cmp f own) best r) c.loop-row.invariant
          ∙ sym (ap (fold (first_with (fill_cmp f own)) None) (filter_yes p rows i r within c.row-item.is (sym w.if-is_early_fill.ensures))
          ∙ fold-append (first_with (fill_cmp f own)) None (filter p (take i rows)) (r ∷ []))
      | else-is_early_fill w ↦
          w.longest-is ∙ c.loop-row.invariant
          ∙ sym (ap (fold (first_with (fill_cmp f own)) None) (filter_no p rows i r within c.row-item.is (sym w.if-is_early_fill.ensures)))
    ]

pub returns : goal.returns
returns c =
    let f = c.args.figures.now in
    let of = claimed_by c.args.bill.now.family in
    let own = c.args.provider.now in
    let soon = is_too_soon f c.args.date c.args.bill.now in
    c.loop-row.invariant
    ∙ ap (λ rows. fold (first_with (fill_cmp f own)) None (filter (is_early_fill f c.args.date c.args.bill.now) rows))
    (take_all c.loop-row.row-index c.args.rows.now (omega arith))
    ∙ ap (fold (first_with (fill_cmp f own)) None) (filter_both of soon c.args.rows.now)
