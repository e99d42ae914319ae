use Rattle.std.proofs.Common.{◌≡◌, ◌++◌, map, string_bytes}
use Rattle.toml.specs.View.{table_view, members_view}
use Rattle.rx_check.specs.Ignored.{each_of, part_lines}
use Rattle.rx_check.proofs.ignored.put_each.Given as goal

-- the lines put, and those of what is left, are all
abbrev pub invariant-loop-name : goal.invariant-loop-name
invariant-loop-name l =
    map string_bytes l.lines.items ++ each_of (part_lines l.part) (members_view l.name-iterator)
    ≡ map string_bytes l.fn.lines.items ++ each_of (part_lines l.part) (table_view l.table)
