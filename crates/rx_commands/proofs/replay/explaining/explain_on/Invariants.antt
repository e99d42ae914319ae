-- Each of the transactions so far, explained; and the pass on its way.
use Rattle.std.proofs.Common.{take}
use Rattle.std.specs.List.{AllZip}
use Rattle.rx_commands.specs.Records.{IsAt, IsPass}
use Rattle.rx_commands.proofs.replay.explaining.explain_on.Given as goal

abbrev pub invariant-loop-nth : goal.invariant-loop-nth
invariant-loop-nth l = record {
  pass : IsPass l.batch l.pass;
  explained : AllZip (IsAt l.batch l.events) (take l.nth l.places) l.explanations.items;
}
