use Rattle.std.proofs.Common.{take}
use Rattle.std.specs.List.{flat_map}
use Rattle.rx_commands.specs.FamilyTables.{row}
use Rattle.rx_print.specs.Page.{Writes}
use Rattle.rx_commands.proofs.family.tables.put_rows.Given as goal

abbrev pub invariant-loop-claim : goal.invariant-loop-claim
invariant-loop-claim l = Writes l.fn.page l.page (flat_map row (take l.claim-index l.claims))
