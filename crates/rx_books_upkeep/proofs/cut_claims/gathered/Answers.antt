use Rattle.std.proofs.Common.{rules, ◌≡◌, ◌++◌, List, [], ◌∷◌, append_assoc, ap, arith, length, refl, sym, ◌∙◌}
use Rattle.std.specs.Vec.Iter.{into_iter_items}
use Rattle.rx_books_upkeep.specs.declared.cut_claims.CutClaims.{CutClaims}
use Rattle.rx_books_upkeep.proofs.Cuts.{part_taken, parts_taken}
use Rattle.rx_books_upkeep.proofs.cut_claims.gathered.Goals as goal

nothing_left : (cuts : List CutClaims) → length cuts ≡ 0 → cuts ≡ []
nothing_left [] none = refl
nothing_left (c ∷ cuts) none = absurd (omega arith)

pub loop-cut-init : goal.loop-cut-init
loop-cut-init c = record {
  so_far = λ percent day parts each. c.none-cuts.ensures percent day;
  all = c.into_iter-cut-iterator.ensures.into_iter_gives.0;
  rest = search rules;
}

pub loop-cut-preserved : goal.loop-cut-preserved
loop-cut-preserved c =
    let done = c.loop-cut.yielded in
    let cut = c.in-Some.cut in
    let rest = into_iter_items c.next.new.self in
    let split : done ++ (cut ∷ rest) ≡ c.args.found.items =
    ap (λ (cs : List CutClaims). done ++ cs) (sym c.in-Some.ensures.steps.0) ∙ c.loop-cut.invariant.all in
    record {
      so_far = λ percent day parts each.
          part_taken percent day parts c.args.found.items done rest cut c.loop-cut.cuts c.take.new.self each split
          (c.loop-cut.invariant.so_far percent day parts each) (c.in_ok-take.ensures percent day);
      all = append_assoc done (cut ∷ []) rest ∙ split;
      rest = search rules;
    }

pub returns : goal.returns
returns c = λ percent day parts each.
    let at = c.loop-cut in
    let rest = into_iter_items at.cut-iterator in
    let none : rest ≡ [] = nothing_left rest (sym at.invariant.rest ∙ c.in-None.ensures.steps.0) in
    parts_taken percent day parts c.args.found.items at.yielded rest at.cuts each at.invariant.all none
    (at.invariant.so_far percent day parts each)
