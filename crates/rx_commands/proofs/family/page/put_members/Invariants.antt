use Rattle.std.proofs.Common.{take}
use Rattle.std.specs.List.{flat_map}
use Rattle.rx_commands.specs.FamilyPage.{member_row}
use Rattle.rx_print.specs.Page.{Writes}
use Rattle.rx_commands.proofs.family.page.put_members.Given as goal

abbrev pub invariant-loop-member : goal.invariant-loop-member
invariant-loop-member l = Writes l.fn.page l.page (flat_map member_row (take l.member-index l.members))
