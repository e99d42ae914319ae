-- The members so far, as they are shown.
use Rattle.std.proofs.Common.{◌≡◌, map, take}
use Rattle.rx_commands.specs.Families.{member_shown}
use Rattle.rx_commands.proofs.family.families.members_shown.Given as goal

abbrev pub invariant-loop-member : goal.invariant-loop-member
invariant-loop-member l = l.list.items ≡ map (member_shown l.limits.deductible l.books l.claims) (take l.member-index l.members)
