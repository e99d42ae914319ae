use Rattle.std.proofs.Common.{length}
use Rattle.rx_books_store.proofs.hints.hashed.Given as goal

abbrev pub decreases-words : goal.decreases-words
decreases-words l = length l.rest
