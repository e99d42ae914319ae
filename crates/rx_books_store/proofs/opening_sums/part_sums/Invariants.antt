-- The figures over the rows so far.
use Rattle.std.proofs.Common.{take}
use Rattle.rx_books_store.specs.Parts.{IsSummed}
use Rattle.rx_books_store.proofs.Adding.{claimed}
use Rattle.rx_books_store.proofs.opening_sums.part_sums.Given as goal

abbrev pub invariant-loop-at : goal.invariant-loop-at
invariant-loop-at l = IsSummed l.period (claimed l.opening.members (take l.at l.rows)) l.figures
