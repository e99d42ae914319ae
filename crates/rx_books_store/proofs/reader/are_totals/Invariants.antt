-- The total lines so far are those of the families so far.
use Rattle.std.proofs.Common.{◌≡◌, take}
use Rattle.rx_books_store.specs.Lists.{totals_in}
use Rattle.rx_books_store.proofs.reader.are_totals.Given as goal

abbrev pub invariant-loop-at : goal.invariant-loop-at
invariant-loop-at l = take l.at l.totals
    ≡ totals_in l.version (take l.at l.families) (take l.at l.out_of_pockets) (take l.at l.deductibles)
