-- Those that leave are still to come.
use Rattle.std.proofs.Common.{◌≡◌, length}
use Rattle.rx_books_upkeep.specs.Ageing.{dropped}
use Rattle.rx_books_upkeep.proofs.cut_claims.all_stay.Given as goal

abbrev pub invariant-rows : goal.invariant-rows
invariant-rows l = dropped l.day l.standing.rows ≡ dropped l.day l.initial.standing.rows

abbrev pub decreases-rows : goal.decreases-rows
decreases-rows l = length l.standing.rows
