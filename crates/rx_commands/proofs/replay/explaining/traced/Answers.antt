-- The facts with what became of the claims.
use Rattle.rx_explain.specs.Spots.{spot_at}
use Rattle.rx_commands.proofs.EachExplained.{facts_traced}
use Rattle.rx_commands.proofs.replay.explaining.traced.Goals as goal

pub returns-in_ok-traced-in-Some : goal.returns-in_ok-traced-in-Some
returns-in_ok-traced-in-Some c b at are =
    facts_traced b c.args.events.now at (spot_at b.asked.now at) c.in-Some.facts.now c.in_ok-traced-in-Some.field-0
    (λ L s. c.in_ok-traced-in-Some.ensures b.lot b.sheet.now L s) (rw c.in-Some.is at are)
