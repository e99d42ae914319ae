-- The sums at the places so far.
use Rattle.std.proofs.Common.{take}
use Rattle.rx_books_store.specs.Parts.{AreAdded}
use Rattle.rx_books_store.proofs.amounts.add_all.Given as goal

abbrev pub invariant-loop-place : goal.invariant-loop-place
invariant-loop-place l = AreAdded l.initial.figures.items (take l.place l.more) l.figures.items
