-- The books are those that the records at the places leave.
use Rattle.std.proofs.Common.{◌∙◌}
use Rattle.rx_wave.proofs.Joining.{books_path}
use Rattle.rx_wave.proofs.shard.run_places.Goals as goal

pub returns-clause-books : goal.returns-clause-books
returns-clause-books g c =
    c.close-books.ensures
    ∙ books_path c.in_ok-ended.ended.books.books _ _ c.in_ok-ended.ensures.period c.in_ok-ended.ensures.ledger
