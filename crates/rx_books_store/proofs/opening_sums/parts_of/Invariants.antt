-- The parts so far, and the places of the members of the rows after them.
use Rattle.std.proofs.Common.{◌≡◌, drop, take}
use Rattle.std.specs.List.{All, flat_map}
use Rattle.rx_sorted.specs.Runs.{items_of}
use Rattle.rx_ledger.specs.Ledger.{Ledger}
use Rattle.rx_books_store.specs.Store.{AreHolders}
use Rattle.rx_books_store.proofs.Added.{rows_in}
use Rattle.rx_books_store.proofs.opening_sums.parts_of.Given as goal

abbrev pub invariant-loop-run : goal.invariant-loop-run
invariant-loop-run l = record {
  members : All (λ (p : Ledger). p.members ≡ l.opening.members) l.parts.items;
  rows : flat_map rows_in l.parts.items ≡ items_of (take l.run-index l.runs);
  rest : AreHolders l.opening.members (items_of (drop l.run-index l.runs)) l.holders;
}
