-- The explanations so far, each as the pharmacy may see it.
use Rattle.std.proofs.Common.{take}
use Rattle.std.specs.List.{AllZip}
use Rattle.rx_commands.specs.ForProvider.{IsSeenBy}
use Rattle.rx_commands.proofs.for_provider.seen_each.Given as goal

abbrev pub invariant-loop-explanation : goal.invariant-loop-explanation
invariant-loop-explanation l = AllZip (IsSeenBy l.provider) (take l.explanation-index l.explanations) l.all.items
