-- The replies of the next plan, or what its response file is refused for.
use Rattle.std.proofs.Common.{◌≡◌, ◌∷◌, [], List, arith, map, subst}
use Rattle.std.proofs.lemmas.List.{length-append, map-append, take_all}
use Rattle.std.proofs.lemmas.Result.{err_from_is_err_and}
use Rattle.rx_switch.specs.declared.join_job.PlanResponse.{PlanResponse as PlanResponseValue}
use Rattle.rx_switch.specs.JoinParts.{ArePicked, response_texts}
use Rattle.rx_switch.specs.JoinRefused.IsNotJoined.{memory}
use Rattle.rx_switch.proofs.JoinWhole.{next_file, picked_next, renumbered}
use Rattle.rx_switch.proofs.joining.lists_of_plans.Goals as goal

pub returns-in_err-lists-clause-refused : goal.returns-in_err-lists-clause-refused
returns-in_err-lists-clause-refused c g plans join is =
    let p = err_from_is_err_and c.from_residual.result c.from_residual.ensures.1 in
    rw (p.1, p.2) memory

pub returns-in_err-picked-clause-refused : goal.returns-in_err-picked-clause-refused
returns-in_err-picked-clause-refused c g plans join is =
    let p = err_from_is_err_and c.from_residual-in_err-picked.result c.from_residual-in_err-picked.ensures.1 in
    let count = c.loop-text.invariant.count in
    let texts = c.args.texts.now in
    let i = c.loop-text.text-index in
    let lists = map (λ list. list.items) c.loop-text.lists.items in
    let same : c.len.result ≡ i = omega (arith, count) in
    let picked = c.loop-text.invariant.picked in
    let next = next_file g plans texts c.args.batch.now c.args.dealt.now join is i _ c.loop-text-test.true lists picked in
    let refused = rw same at c.in_err-picked.ensures.refused in
    rw (p.1, p.2) (refused g plans next.1.0 next.0 next.1.1 join.first is)

pub returns-in_err-push-clause-refused : goal.returns-in_err-push-clause-refused
returns-in_err-push-clause-refused c g plans join is =
    let p = err_from_is_err_and c.from_residual-in_err-push.result c.from_residual-in_err-push.ensures.1 in
    rw (p.1, p.2) memory

pub loop-text-preserved : goal.loop-text-preserved
loop-text-preserved c =
    let so_far = c.loop-text.lists.items in
    let long = length-append so_far (c.in_ok-picked.picked ∷ []) in
    let count = c.loop-text.invariant.count in
    let at : c.len.result ≡ c.loop-text.text-index = omega (arith, count) in
    let batch = c.args.batch.now in
    let dealt = c.args.dealt.now in
    record {
      picked = rw c.in_ok-push.ensures.items (rw (map-append (λ list. list.items) so_far (c.in_ok-picked.picked ∷ []))
          (picked_next batch dealt c.args.texts.now (map (λ list. list.items) so_far) c.loop-text.text-index _
          c.in_ok-picked.picked.items c.loop-text-test.true c.loop-text.invariant.picked
          (renumbered _ _ _ _ _ _ at c.in_ok-picked.ensures.picked)));
      count = rw c.in_ok-push.ensures.items (omega (arith, long, count));
    }

pub returns-clause-picked : goal.returns-clause-picked
returns-clause-picked c =
    subst (λ (all : List PlanResponseValue). ArePicked c.args.batch.now c.args.dealt.now (map response_texts all)
    (map (λ list. list.items) c.loop-text.lists.items))
    (take_all c.loop-text.text-index c.args.texts.now (omega arith)) c.loop-text.invariant.picked
