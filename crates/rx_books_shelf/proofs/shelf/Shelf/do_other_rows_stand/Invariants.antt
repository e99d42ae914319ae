-- The rows that are still to come, among all.
use Rattle.std.proofs.Common.{◌≡◌, length}
use Rattle.std.specs.List.{list_all}
use Rattle.rx_books_shelf.specs.Agreement.{rest_stands}
use Rattle.rx_books_shelf.proofs.shelf.Shelf.do_other_rows_stand.Given as goal

abbrev pub invariant-rows : goal.invariant-rows
invariant-rows l = list_all (rest_stands l.self) l.standing.rows ≡ list_all (rest_stands l.self) l.self.rest.rows

abbrev pub decreases-rows : goal.decreases-rows
decreases-rows l = length l.standing.rows
