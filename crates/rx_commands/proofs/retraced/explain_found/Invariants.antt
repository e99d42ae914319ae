-- Each of the transactions so far, explained.
use Rattle.std.proofs.Common.{take}
use Rattle.std.specs.List.{AllZip}
use Rattle.rx_commands.specs.Records.{IsAt}
use Rattle.rx_commands.proofs.retraced.explain_found.Given as goal

abbrev pub invariant-loop-nth : goal.invariant-loop-nth
invariant-loop-nth l = AllZip (IsAt l.batch l.events) (take l.nth l.found) l.explanations.items
