-- The record explained is the one at the place.
use Rattle.std.proofs.Common.{◌≡◌, ◌+◌, ℕ, subst, arith}
use Rattle.rx_commands.specs.Records.{AreDecided}
use Rattle.rx_commands.proofs.replay.explaining.pass_to.Goals as goal

pub returns-clause-latest : goal.returns-clause-latest
returns-clause-latest c =
    let is : c.go_to.new.course.done + 1 ≡ c.args.place = omega (arith, c.in_ok-go_to.ensures.done, c.if-place-eq0.false) in
    subst (λ (n : ℕ). AreDecided c.args.batch.now n c.in_ok-pass.field-0.items) is c.in_ok-pass.ensures.explained
