use Rattle.std.proofs.Common.{subst}
use Rattle.rx_schedule.specs.Machine.{Was}
use Rattle.rx_tests.proofs.schedule.pass_next.Goals as goal

-- a ready place wasn't issued, so it wasn't passed
pub pass-requires-clause-unpassed : goal.pass-requires-clause-unpassed
pass-requires-clause-unpassed c = λ was. c.in-Some.ensures.next.unhanded
    (c.ready.ensures.within.after c.in-Some.place (subst (λ ps. Was c.in-Some.place ps) c.hand.ensures.passed was))
