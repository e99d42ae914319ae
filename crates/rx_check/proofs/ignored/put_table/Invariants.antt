use Rattle.std.proofs.Common.{◌≡◌, ◌++◌, map, string_bytes}
use Rattle.toml.specs.View.{table_view, members_view}
use Rattle.rx_check.specs.Ignored.{table_lines, texts_of}
use Rattle.rx_check.proofs.ignored.put_table.Given as goal

-- the lines put, and those of the names that are left, are all
abbrev pub invariant-loop-name : goal.invariant-loop-name
invariant-loop-name l =
    map string_bytes l.lines.items ++ table_lines l.within (texts_of l.known) (members_view l.name-iterator)
    ≡ map string_bytes l.fn.lines.items ++ table_lines l.within (texts_of l.known) (table_view l.table)
