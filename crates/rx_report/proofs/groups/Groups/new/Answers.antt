use Rattle.std.proofs.Common.{◌≡◌, ◌+◌, ◌∷◌, [], ◌++◌, take, sym, ap, ◌∙◌}
use Rattle.std.proofs.lemmas.List.{take_more}
use Rattle.rx_report.specs.Adding.{added}
use Rattle.rx_report.specs.Groups.{grouped}
use Rattle.rx_report.proofs.Grouping.{added-grouped}
use Rattle.rx_report.proofs.groups.Groups.new.Goals as goal

-- the line goes after those of its provider
pub loop-line-preserved : goal.loop-line-preserved
loop-line-preserved c =
    let before = take c.loop-line.line-index c.args.lines.now in
    let line = c.line-item.result in
    let after : take (c.loop-line.line-index + 1) c.args.lines.now ≡ before ++ line ∷ [] =
    take_more c.args.lines.now c.loop-line.line-index line c.loop-line-test.true
    ∙ ap (λ l. before ++ l ∷ []) (sym c.line-item.is) in
    c.in_ok-put_after.ensures ∙ (λ j. added (c.known_or_blank-provider.ensures j) line (c.loop-line.invariant j))
    ∙ added-grouped before line ∙ ap grouped (sym after)
