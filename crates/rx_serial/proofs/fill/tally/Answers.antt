use Rattle.std.proofs.Common.{sym, ◌∙◌}
use Rattle.rx_serial.proofs.Counting.{tallied_past}
use Rattle.rx_serial.proofs.fill.tally.Goals as goal

pub returns-then-is_past-clause-ok : goal.returns-then-is_past-clause-ok
returns-then-is_past-clause-ok c =
    c.in_ok-push.ensures.ok ∙ tallied_past c.args.fills.now c.args.fill (sym c.is_past.ensures ∙ c.if-is_past.true)
