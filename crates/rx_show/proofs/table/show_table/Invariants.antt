use Rattle.std.proofs.Common.{◌≡◌, ◌++◌, ◌+◌, drop, false}
use Rattle.rx_show.specs.Table.{rows_from, shown_table}
use Rattle.rx_show.proofs.table.show_table.Given as goal

abbrev pub invariant-loop-before : goal.invariant-loop-before
invariant-loop-before l =
    l.page.lacks ≡ false → l.page.bytes.items ++ rows_from (l.before + 1) (drop l.before l.transmissions) ≡ shown_table l.transmissions
