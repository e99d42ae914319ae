-- One more claim is kept, or isn't.
use Rattle.std.proofs.Common.{◌<◌, ◌∙◌, ◌++◌, ◌∷◌, [], length, sym, ap, arith}
use Rattle.rx_explain.specs.Seen.{is_of}
use Rattle.rx_explain.proofs.Counted.{filter_no, filter_yes}
use Rattle.rx_explain.proofs.seen.claims_of.Goals as goal
use Rattle.rx_explain.proofs.seen.claims_of.Goals.{then-is_of+in_ok-push, else-is_of}

pub loop-traced-preserved : goal.loop-traced-preserved
loop-traced-preserved c =
    let claims = c.args.claims.now in
    let i = c.loop-traced.traced-index in
    let t = c.traced-item.result in
    let p = is_of c.args.own c.args.provider.now in
    let within : i < length claims = omega arith in
    elim c.if-is_of.branch [
      | then-is_of+in_ok-push w ↦
          ap (λ v. v.items) w.kept-is ∙ w.in_ok-push.ensures.items
          ∙ ap (λ xs. xs ++ t ∷ []) c.loop-traced.invariant
          ∙ sym (filter_yes p claims i t within c.traced-item.is (sym w.if-is_of.ensures))
      | else-is_of w ↦
          ap (λ v. v.items) w.kept-is ∙ c.loop-traced.invariant
          ∙ sym (filter_no p claims i t within c.traced-item.is (sym w.if-is_of.ensures))
    ]
