-- What the lines that are left name is searched from the number of the first of them on.
use Rattle.std.proofs.Common.{◌≡◌, ◌+◌, [], length, map}
use Rattle.std.specs.List.{position_from}
use Rattle.std.specs.Str.{bytes_eq}
use Rattle.rx_diagnostics.specs.SheetLines.{paths_in}
use Rattle.rx_diagnostics.proofs.sheet_lines.line_naming.Given as goal

abbrev pub invariant-loop-left : goal.invariant-loop-left
invariant-loop-left l = record {
  same : position_from (bytes_eq l.path) l.number (paths_in l.above (map (λ x. x.now) l.left))
      ≡ position_from (bytes_eq l.path) 1 (paths_in [] (map (λ x. x.now) l.lines));
  count : l.number + length l.left ≡ 1 + length l.lines;
}

abbrev pub decreases-loop-left : goal.decreases-loop-left
decreases-loop-left l = length l.left
