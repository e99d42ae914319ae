-- The books after the records before the place, on the opening books.
use Rattle.rx_commands.proofs.excerpts.books_before.Goals as goal

pub returns : goal.returns
returns c = rw (c.lot.ensures, c.in_ok-opening.ensures) at c.books_after-before.ensures.ledger
