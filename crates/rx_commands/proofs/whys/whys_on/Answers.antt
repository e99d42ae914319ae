-- One more line has its words.
use Rattle.std.proofs.Common.{◌<◌, length, arith}
use Rattle.rx_commands.specs.Tiers.{table_of}
use Rattle.rx_commands.specs.Whys.{IsWhyAmong}
use Rattle.rx_commands.proofs.Listed.{zipped_more}
use Rattle.rx_commands.proofs.whys.whys_on.Goals as goal

pub loop-line-preserved : goal.loop-line-preserved
loop-line-preserved c =
    let b = c.args.batch.now in
    let q = c.args.quoted in
    let lines = c.args.lines.now in
    let within : c.loop-line.line-index < length lines = omega arith in
    let x = c.in_ok-explanation.explanation in
    let why : IsWhyAmong b.lot b.sheet.now (table_of q.tiers.now) b.asked.now b.opening.now.ledger q.details.now c.args.events.now
    c.line-item.result c.in_ok-why.why =
    record {
      explanation = x;
      explained = rw c.at_of.ensures at c.in_ok-explanation.ensures.explained;
      spot_is = c.in_ok-why.ensures.spot;
      text_is = c.in_ok-why.ensures.text;
    } in
    record {
      pass = c.in_ok-explanation.ensures.pass;
      whys = rw c.in_ok-push.ensures.items
          (zipped_more
          (IsWhyAmong b.lot b.sheet.now (table_of q.tiers.now) b.asked.now b.opening.now.ledger q.details.now c.args.events.now)
          lines c.loop-line.whys.items c.loop-line.line-index c.line-item.result c.in_ok-why.why within c.line-item.is
          c.loop-line.invariant.whys why);
    }
