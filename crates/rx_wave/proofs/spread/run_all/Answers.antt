-- What a shard leaves is what its records at their places left.
use Rattle.std.proofs.Common.{◌≡◌, ℕ, ◌<◌, List, [], Ok, get_or, length, sym, ap, subst, ◌∙◌, arith}
use Rattle.std.specs.Prelude.{IfOk}
use Rattle.std.proofs.lemmas.List.{get_or-map, length-map}
use Rattle.std.proofs.lemmas.Option.{same_Some, slice_get-get_or}
use Rattle.std.proofs.lemmas.Result.{IfOk-weaker}
use Rattle.rx_wave.specs.Jobs.{HasRun}
use Rattle.rx_wave.proofs.Joining.{low_of}
use Rattle.rx_wave.proofs.Lists.{an_item}
use Rattle.rx_wave.proofs.spread.run_all.Goals as goal

pub returns-clause-each : goal.returns-clause-each
returns-clause-each g c =
    let job = c.args.job.now in
    let results = c.in_ok-results.results.items in
    let places = c.args.places.items in
    let len = c.in_ok-results.ensures.len in
    IfOk-weaker c.all_ended.result _ _ (λ all same k end is.
    let low = low_of all.items k end is in
    let long = ap length same ∙ length-map all.items Ok in
    let inside : k < length places = omega (arith, low, long, len) in
    let place = an_item places k inside in
    let one : get_or all.items k end ≡ end = same_Some _ _ (sym (slice_get-get_or all.items k end low) ∙ is) in
    let got : get_or results k (Ok end) ≡ Ok end =
    ap (λ rs. get_or rs k (Ok end)) same ∙ get_or-map Ok all.items k end (Ok end) low ∙ ap Ok one in
    let ran = subst (λ r. IfOk r (HasRun job (get_or places k place).items)) got
    (c.in_ok-results.ensures.each k place (Ok end) inside) in
    subst (λ (ps : List ℕ). HasRun job ps end) (sym (get_or-map (λ list. list.items) places k place [] inside)) ran)
    c.all_ended.ensures
