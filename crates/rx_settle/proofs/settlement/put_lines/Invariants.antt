use Rattle.std.proofs.Common.{◌≡◌, ◌++◌}
use Rattle.std.specs.List.{flat_map}
use Rattle.rx_settle.specs.Counting.{line}
use Rattle.rx_settle.proofs.settlement.put_lines.Given as goal

-- what is written, and the lines that are left to write
abbrev pub invariant-loop-field : goal.invariant-loop-field
invariant-loop-field l =
    l.text.items ++ flat_map line l.field-iterator ≡ l.initial.text.items ++ flat_map line l.providers.entries
