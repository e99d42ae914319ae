-- The figures over the rows of the parts so far.
use Rattle.std.proofs.Common.{take}
use Rattle.std.specs.List.{flat_map}
use Rattle.rx_books_store.specs.Parts.{IsSummed}
use Rattle.rx_books_store.proofs.Added.{rows_in}
use Rattle.rx_books_store.proofs.Adding.{claimed}
use Rattle.rx_books_store.proofs.opening_sums.opening_sums.Given as goal

abbrev pub invariant-loop-part : goal.invariant-loop-part
invariant-loop-part l =
    IsSummed l.period (claimed l.opening.members (flat_map rows_in (take l.part-index l.part-items))) l.figures
