use Rattle.std.proofs.Common.{length}
use Rattle.rx_books_shelf.proofs.rooms.rooms_of.Given as goal

abbrev pub decreases-rows : goal.decreases-rows
decreases-rows l = length l.standing.rows
