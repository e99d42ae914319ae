-- Slots that hold nothing are passed: the same rows are still to come.
use Rattle.std.proofs.Common.{◌≡◌, ◌≤◌, ◌-◌, drop, length}
use Rattle.rx_books_store.specs.Store.{standing_rows}
use Rattle.rx_books_store.proofs.standing.Standing.next_row.Given as goal

abbrev pub invariant-slots : goal.invariant-slots
invariant-slots l = record {
  opening : l.self-inside.opening ≡ l.initial.self-inside.opening;
  slots : l.self-inside.slots ≡ l.initial.self-inside.slots;
  within : l.self-inside.row ≤ length l.rows;
  rest : standing_rows (drop l.self-inside.row l.rows) (drop l.self-inside.slot l.slots)
      ≡ standing_rows (drop l.initial.self-inside.row l.rows) (drop l.initial.self-inside.slot l.slots);
}

abbrev pub decreases-slots : goal.decreases-slots
decreases-slots l = length l.slots - l.self-inside.slot
