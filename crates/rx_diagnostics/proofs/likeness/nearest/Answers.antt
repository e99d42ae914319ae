use Rattle.std.proofs.Common.{◌≡◌, ◌∙◌, ap, ℕ, List, [], Bor, get_or, map, take, option_copied}
use Rattle.rx_diagnostics.specs.Likeness.{apart}
use Rattle.rx_diagnostics.proofs.LeastApart.{names_more, next_is, next_is_far, next_is_short}
use Rattle.rx_diagnostics.proofs.likeness.nearest.Goals as goal
use Rattle.rx_diagnostics.proofs.likeness.nearest.Goals.{then-apart-least+then-apart-candidate, else-apart-least}
use Rattle.rx_diagnostics.proofs.likeness.nearest.Goals.{else-apart-least-via-then-apart-least+else-apart-candidate}
use Rattle.rx_diagnostics.proofs.likeness.nearest.Goals.{else-apart-least-via-else-apart-least}

pub loop-candidate-preserved : goal.loop-candidate-preserved
loop-candidate-preserved c =
    let i = c.loop-candidate.candidate-index in
    let none : Bor (List ℕ) = record { ref_ptr = (0, 0); now = [] } in
    let name : List ℕ = c.args.name.now in
    let before = map (λ k. k.now) (take i c.args.known.now) in
    let next : List ℕ = (get_or c.args.known.now i none).now in
    let best = option_copied c.loop-candidate.best in
    let least = c.loop-candidate.least in
    let was = c.loop-candidate.invariant in
    let more = names_more (λ k. k.now) c.args.known.now i none c.loop-candidate-test.true in
    let now_is : c.apart-apart.result ≡ apart name next = c.apart-apart.ensures ∙ ap (apart name) c.as_bytes.ensures.value in
    elim c.if-apart-least.branch [
      | then-apart-least+then-apart-candidate w ↦
          rw (more, w.best-is, w.least-is)
          (next_is name before next best least _ was now_is w.if-apart-least.true w.if-apart-candidate.true)
      | else-apart-least w ↦ (elim w.else-apart-least.branch [
        | else-apart-least-via-then-apart-least+else-apart-candidate v ↦
            rw (more, w.best-is, w.least-is) (next_is_short name before next best least _ was now_is v.if-apart-candidate.false)
        | else-apart-least-via-else-apart-least v ↦
            rw (more, w.best-is, w.least-is) (next_is_far name before next best least _ was now_is v.if-apart-least.false)
      ])
    ]
