use Rattle.std.proofs.Common.{take}
use Rattle.std.specs.List.{flat_map}
use Rattle.rx_commands.specs.FamilyTables.{comma_member}
use Rattle.rx_print.specs.Page.{Writes}
use Rattle.rx_commands.proofs.family.tables.put_others.Given as goal

abbrev pub invariant-loop-column : goal.invariant-loop-column
invariant-loop-column l = Writes l.fn.page l.page (flat_map (comma_member l.claim) (take l.column-index l.columns))
