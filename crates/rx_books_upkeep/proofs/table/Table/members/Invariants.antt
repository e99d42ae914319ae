-- The list so far, and the members that are left.
use Rattle.std.proofs.Common.{◌≡◌, ◌++◌, map}
use Rattle.rx_books_upkeep.specs.Table.{member_at}
use Rattle.rx_books_upkeep.proofs.table.Table.members.Given as goal

abbrev pub invariant-loop-key : goal.invariant-loop-key
invariant-loop-key l = l.list.items ++ map member_at l.key-iterator ≡ map member_at l.initial.key-iterator
