use Rattle.std.proofs.Common.{◌≡◌, ◌++◌, ◌+◌, drop}
use Rattle.rx_report.specs.Lines.{lines_from, lines_of}
use Rattle.rx_report.proofs.lines.all_lines.Given as goal

abbrev pub invariant-loop-at : goal.invariant-loop-at
invariant-loop-at l =
    l.lines.items ++ lines_from (l.at + 1) (drop l.at l.transmissions) (drop l.at l.replies)
    ≡ lines_of l.transmissions l.replies
