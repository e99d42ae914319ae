-- The facts of the transaction are among those of the record that the pass has come to.
use Rattle.std.proofs.Common.{◌∙◌, ℕ, Option, ap, subst, sym}
use Rattle.rx_explain.specs.Spots.{item}
use Rattle.rx_explain.specs.declared.facts.Facts.{Facts}
use Rattle.rx_commands.specs.Records.{IsDecided}
use Rattle.rx_commands.proofs.replay.explaining.Pass.explain.Goals as goal

pub returns-clause-explained : goal.returns-clause-explained
returns-clause-explained c =
    let b = c.args.batch.now in
    let at = c.args.at in
    let latest = c.pass_to.new.pass.latest.items in
    let there : IsDecided b at (item latest at.nth) =
    subst (λ (n : ℕ). IsDecided b (record { place = n; nth = at.nth }) (item latest at.nth)) c.in_ok-pass_to.ensures.place
    (c.in_ok-pass_to.ensures.latest at.nth) in
    c.traced.ensures b at
    (subst (λ (x : Option Facts). IsDecided b at x)
    (sym (c.item.ensures ∙ ap (λ xs. item xs at.nth) c.deref.ensures.value)) there)
