use Rattle.std.proofs.Common.{◌≡◌, ◌++◌, ◌+◌, drop, false}
use Rattle.rx_show.specs.Lines.{lines_from, shown_lines}
use Rattle.rx_show.proofs.lines.show_lines.Given as goal

abbrev pub invariant-loop-before : goal.invariant-loop-before
invariant-loop-before l =
    l.page.lacks ≡ false → l.page.bytes.items ++ lines_from (l.before + 1) (drop l.before l.transmissions) ≡ shown_lines l.transmissions
