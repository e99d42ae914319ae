-- The places of the members of the runs so far.
use Rattle.std.proofs.Common.{take}
use Rattle.rx_sorted.specs.Runs.{items_of}
use Rattle.rx_books_store.specs.Store.{AreHolders}
use Rattle.rx_books_store.proofs.holders.holders_of.Given as goal

abbrev pub invariant-loop-run : goal.invariant-loop-run
invariant-loop-run l = AreHolders l.members (items_of (take l.run-index l.runs)) l.holders.items
