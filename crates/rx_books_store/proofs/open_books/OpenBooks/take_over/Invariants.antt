-- What stands under the keys so far is taken over.
use Rattle.std.proofs.Common.{take}
use Rattle.rx_books_store.specs.OpenBooks.{HasTaken}
use Rattle.rx_books_store.proofs.open_books.OpenBooks.take_over.Given as goal

abbrev pub invariant-loop-at : goal.invariant-loop-at
invariant-loop-at l = HasTaken l.initial.self l.from.books.ledger (take l.at l.keys) l.self
