-- One more of the places is gone to, or skipped.
use Rattle.std.proofs.Common.{◌≡◌, ◌+◌, ◌++◌, ◌∷◌, ◌∙◌, ℕ, List, ap, drop, drop-cons, get_or, length, map, suc, sym, arith}
use Rattle.rx_commands.specs.Places.{places_ahead}
use Rattle.rx_commands.specs.declared.replay.replaying.Explained.{Explained}
use Rattle.rx_commands.proofs.replay.replaying.explain_ahead.Goals as goal

pub loop-place-preserved : goal.loop-place-preserved
loop-place-preserved c =
    let i = c.loop-place.place-index in
    let places = c.args.places.now in
    let count = length c.args.batch.now.asked.now in
    let next : suc i ≡ i + 1 = omega arith in
    let here : drop i places ≡ get_or places i 0 ∷ drop (i + 1) places =
    drop-cons places i 0 c.loop-place-test.true ∙ ap (λ n. get_or places i 0 ∷ drop n places) next in
    record {
      course = c.in_ok-explain_at.ensures.course;
      explained = c.in_ok-explain_at.ensures.explained;
      places = c.in_ok-explain_at.ensures.places (drop (i + 1) places)
          ∙ ap (λ (ps : List ℕ). map (λ (k : Explained). k.place) c.loop-place.explained.items
          ++ places_ahead c.loop-place.course.done count ps) (sym here)
          ∙ c.loop-place.invariant.places;
    }
