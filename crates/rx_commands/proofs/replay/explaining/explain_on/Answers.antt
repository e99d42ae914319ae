-- One more transaction is explained.
use Rattle.std.proofs.Common.{◌<◌, length, arith}
use Rattle.rx_commands.specs.Records.{IsAt}
use Rattle.rx_commands.proofs.Listed.{zipped_more}
use Rattle.rx_commands.proofs.replay.explaining.explain_on.Goals as goal

pub loop-nth-preserved : goal.loop-nth-preserved
loop-nth-preserved c =
    let places = c.args.places.now in
    let within : c.loop-nth.nth < length places = omega arith in
    record {
      pass = c.in_ok-explanation.ensures.pass;
      explained = rw c.in_ok-push.ensures.items
          (zipped_more (IsAt c.args.batch.now c.args.events.now) places c.loop-nth.explanations.items c.loop-nth.nth
          c.place_at-at.result c.in_ok-explanation.explanation within c.place_at-at.ensures c.loop-nth.invariant.explained
          c.in_ok-explanation.ensures.explained);
    }
