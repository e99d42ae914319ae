use Rattle.std.proofs.Common.{refl}
use Rattle.std.proofs.lemmas.Result.{err_from_is_err_and}
use Rattle.rx_commands.proofs.excerpts.books_file.books_text.Goals as goal

pub returns-in_err-books-clause-refused : goal.returns-in_err-books-clause-refused
returns-in_err-books-clause-refused c =
    let p = err_from_is_err_and c.from_residual.result c.from_residual.ensures.1 in
    rw (p.1, p.2) refl

pub returns-clause-text : goal.returns-clause-text
returns-clause-text c = rw c.in_ok-books.ensures at c.written-text.ensures.text

pub returns-clause-refused : goal.returns-clause-refused
returns-clause-refused c = rw c.in_ok-books.ensures at c.written-text.ensures.refused
