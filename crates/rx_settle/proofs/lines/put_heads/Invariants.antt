use Rattle.std.proofs.Common.{◌≡◌, ◌++◌, drop}
use Rattle.rx_settle.specs.Together.{head_lines}
use Rattle.rx_settle.proofs.lines.put_heads.Given as goal

-- what is written, and the lines that are left to write
abbrev pub invariant-loop-run : goal.invariant-loop-run
invariant-loop-run l = l.text.items ++ head_lines (drop l.run-index l.runs) ≡ l.initial.text.items ++ head_lines l.runs
