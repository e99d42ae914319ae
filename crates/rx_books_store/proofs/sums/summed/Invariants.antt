-- The figures of the rows so far.
use Rattle.std.proofs.Common.{◌≡◌, List, length}
use Rattle.rx_ledger.specs.declared.row.Row.{Row}
use Rattle.rx_books_store.specs.Store.{standing_rows}
use Rattle.rx_books_store.proofs.Adding.{IsCounted}
use Rattle.rx_books_store.proofs.sums.summed.Given as goal

abbrev pub invariant-rows : goal.invariant-rows
invariant-rows l = (done : List Row) × ((l.standing.members ≡ l.opening.members)
    × IsCounted l.period l.opening.members (standing_rows l.opening.rows l.slots) l.standing.rows done l.figures.deductibles.items
    l.figures.out_of_pockets.items l.figures.family_deductibles.items)

abbrev pub decreases-rows : goal.decreases-rows
decreases-rows l = length l.standing.rows
