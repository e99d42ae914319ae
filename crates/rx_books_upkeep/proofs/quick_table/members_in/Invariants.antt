-- The members so far, and those of the lines that are left.
use Rattle.std.proofs.Common.{◌≡◌, ◌≤◌, ◌++◌, length}
use Rattle.std.specs.Option.{option_map}
use Rattle.rx_books_text.specs.TextReading.{lines}
use Rattle.rx_books_upkeep.specs.QuickTable.{members_in}
use Rattle.rx_books_upkeep.proofs.quick_table.members_in.Given as goal

abbrev pub invariant-loop-end : goal.invariant-loop-end
invariant-loop-end l = record {
  all : option_map (λ ms. l.list.items ++ ms) (members_in (lines l.rest)) ≡ members_in (lines l.text);
  short : length l.rest ≤ length l.text;
}

abbrev pub decreases-loop-end : goal.decreases-loop-end
decreases-loop-end l = length l.rest
