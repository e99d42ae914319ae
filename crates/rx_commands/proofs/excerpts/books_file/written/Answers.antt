-- The text is given out exactly where it is a books file.
use Rattle.std.proofs.Common.{◌≡◌, ◌∙◌, List, ℕ, false, refl, subst, sym, true}
use Rattle.std.proofs.lemmas.Result.{err_from_is_err_and}
use Rattle.rx_books_store.specs.BooksFile.{IsBooksText}
use Rattle.rx_commands.proofs.excerpts.books_file.written.Goals as goal

pub returns-in_err-text-clause-refused : goal.returns-in_err-text-clause-refused
returns-in_err-text-clause-refused c =
    let p = err_from_is_err_and c.from_residual.result c.from_residual.ensures.1 in
    rw (p.1, p.2) refl

pub returns-in_err-is_text-clause-refused : goal.returns-in_err-is_text-clause-refused
returns-in_err-is_text-clause-refused c =
    let p = err_from_is_err_and c.from_residual-in_err-is_text.result c.from_residual-in_err-is_text.ensures.1 in
    rw (p.1, p.2) refl

pub returns-then-is_text-clause-text : goal.returns-then-is_text-clause-text
returns-then-is_text-clause-text c = rw c.deref.ensures.value at (c.in_ok-is_text.ensures.0 c.if-is_text.true)

pub returns-else-is_text-clause-refused : goal.returns-else-is_text-clause-refused
returns-else-is_text-clause-refused c is =
    let books = c.args.books.now in
    let given = subst (λ (t : List ℕ). IsBooksText t books.period books.ledger)
    (sym (c.deref.ensures.value ∙ c.in_ok-text.ensures)) is in
    let e : true ≡ false = sym (c.in_ok-is_text.ensures.1 given) ∙ c.if-is_text.false in
    absurd cc
