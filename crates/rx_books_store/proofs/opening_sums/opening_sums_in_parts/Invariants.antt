-- The figures over the rows of the parts so far.
use Rattle.std.proofs.Common.{List, take}
use Rattle.std.specs.List.{flat_map}
use Rattle.rx_ledger.specs.Ledger.{Ledger}
use Rattle.rx_books_store.specs.Parts.{IsSummed}
use Rattle.rx_books_store.proofs.Added.{AreSums, rows_in}
use Rattle.rx_books_store.proofs.Adding.{claimed}
use Rattle.rx_books_store.proofs.opening_sums.opening_sums_in_parts.Given as goal

abbrev pub invariant-loop-more : goal.invariant-loop-more
invariant-loop-more g l = (parts : List Ledger) × (AreSums l.fn.period l.opening parts l.more-items
    × IsSummed l.fn.period (claimed l.opening.members (flat_map rows_in (take l.more-index parts))) l.figures)
