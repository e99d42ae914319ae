use Rattle.std.proofs.Common.{◌≡◌, ◌++◌, drop}
use Rattle.rx_books_upkeep.proofs.MergedMembers.{Rises, joined}
use Rattle.rx_books_upkeep.proofs.merging.merged_list.Given as goal

abbrev pub invariant-table : goal.invariant-table
invariant-table l = record {
  rise : Rises l.rest;
  so_far : l.list.items ++ joined l.rest (drop l.member-index l.table) ≡ joined l.members l.table;
}
