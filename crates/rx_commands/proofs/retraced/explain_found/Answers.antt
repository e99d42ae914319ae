-- One more transaction is explained: its record was explained on the way.
use Rattle.std.proofs.Common.{◌≡◌, ◌<◌, ◌∙◌, ◌==◌, ℕ, Option, Some, ap, length, subst, sym, arith}
use Rattle.std.specs.List.{find}
use Rattle.std.specs.Option.{option_copied}
use Rattle.std.proofs.lemmas.Bool.{eqb-true}
use Rattle.rx_explain.specs.Spots.{item}
use Rattle.rx_explain.specs.declared.facts.Facts.{Facts}
use Rattle.rx_commands.specs.Records.{AreDecided, IsAt, IsDecided}
use Rattle.rx_commands.specs.declared.replay.replaying.Explained.{Explained}
use Rattle.rx_commands.proofs.Listed.{zipped_more}
use Rattle.rx_commands.proofs.Found.{found_is, found_passes}
use Rattle.rx_commands.proofs.retraced.explain_found.Goals as goal

pub loop-nth-preserved : goal.loop-nth-preserved
loop-nth-preserved c =
    let b = c.args.batch.now in
    let events = c.args.events.now in
    let all = c.args.explained.now in
    let at = c.place_at-at.result in
    let k = c.in-Some.record.now in
    let xs = k.facts.items in
    let is : find (λ (r : Explained). r.place == at.place) all ≡ Some k =
    sym c.record_at.ensures ∙ ap option_copied c.in-Some.is in
    let place : k.place ≡ at.place =
    eqb-true k.place at.place (found_passes (λ (r : Explained). r.place == at.place) all k is) in
    let kept : AreDecided b k.place xs =
    found_is (λ (r : Explained). AreDecided b r.place r.facts.items) (λ (r : Explained). r.place == at.place) all k
    c.requires.explained is in
    let there : IsDecided b at (item xs at.nth) =
    subst (λ (n : ℕ). IsDecided b (record { place = n; nth = at.nth }) (item xs at.nth)) place (kept at.nth) in
    let within : c.loop-nth.nth < length c.args.found.now = omega arith in
    rw c.in_ok-push.ensures.items
    (zipped_more (IsAt b events) c.args.found.now c.loop-nth.explanations.items c.loop-nth.nth at c.in_ok-traced.field-0 within
    c.place_at-at.ensures c.loop-nth.invariant
    (c.in_ok-traced.ensures b at
    (subst (λ (x : Option Facts). IsDecided b at x)
    (sym (c.item-facts.ensures ∙ ap (λ ys. item ys at.nth) c.deref.ensures.value)) there)))
