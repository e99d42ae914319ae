use Rattle.std.proofs.Common.{take}
use Rattle.std.specs.List.{flat_map}
use Rattle.rx_commands.specs.ComparedText.{with_name}
use Rattle.rx_print.specs.Page.{Writes}
use Rattle.rx_commands.proofs.comparing.table.put_with_names.Given as goal

-- the names so far
abbrev pub invariant-loop-column : goal.invariant-loop-column
invariant-loop-column l = Writes l.fn.page l.page (flat_map with_name (take l.column-index l.columns))
