-- The lines so far, followed by those from here on with the explanations that are left, are the lines.
use Rattle.std.proofs.Common.{◌≡◌, ◌++◌, drop}
use Rattle.rx_commands.specs.Reversed.{lines_with_members}
use Rattle.rx_commands.proofs.reversed.lines_with_members.Given as goal

abbrev pub invariant-loop-line : goal.invariant-loop-line
invariant-loop-line l =
    l.whole.items ++ lines_with_members (drop l.line-index l.lines) l.left ≡ lines_with_members l.lines l.explanations
