use Rattle.std.proofs.Common.{take}
use Rattle.std.specs.List.{flat_map}
use Rattle.rx_commands.specs.FamilyColumns.{line_text}
use Rattle.rx_print.specs.Page.{Writes}
use Rattle.rx_commands.proofs.family.columns.put_each_line.Given as goal

abbrev pub invariant-loop-claim : goal.invariant-loop-claim
invariant-loop-claim l = Writes l.fn.page l.page (flat_map line_text (take l.claim-index l.claims))
