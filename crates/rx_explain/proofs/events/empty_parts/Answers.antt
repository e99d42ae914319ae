-- One more part, which is empty as well.
use Rattle.std.specs.Prelude.{Vec}
use Rattle.std.specs.List.{All}
use Rattle.std.proofs.Common.{◌≡◌, ◌++◌, List, [], ◌∷◌, arith}
use Rattle.std.proofs.lemmas.List.{length_push}
use Rattle.std.proofs.lemmas.List.Elements.{All-push}
use Rattle.rx_explain.proofs.events.empty_parts.Goals as goal

one_more : {X Z : Type 0} (parts : List (Vec X Z)) (part : Vec X Z) → All (λ v. v.items ≡ []) parts → part.items ≡ []
    → All (λ v. v.items ≡ []) (parts ++ part ∷ [])
one_more parts part all none = All-push (λ v. v.items ≡ []) parts part all none

pub loop-preserved : goal.loop-preserved
loop-preserved c =
    let parts = c.loop.parts.items in
    let part = c.new.result in
    rw c.in_ok-push.ensures.items (record {
      many = omega (arith, length_push parts part, c.loop.invariant.many);
      empty = one_more parts part c.loop.invariant.empty c.new.ensures.items;
    })
