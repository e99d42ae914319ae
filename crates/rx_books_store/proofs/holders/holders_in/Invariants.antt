-- The places of the members of the rows so far.
use Rattle.std.proofs.Common.{take}
use Rattle.rx_books_store.specs.Store.{AreHolders}
use Rattle.rx_books_store.proofs.holders.holders_in.Given as goal

abbrev pub invariant-loop-at : goal.invariant-loop-at
invariant-loop-at l = AreHolders l.members (take l.at l.run) l.holders.items
