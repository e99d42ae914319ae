use Rattle.std.proofs.Common.{option_copied}
use Rattle.std.proofs.lemmas.Result.{err_from_is_err_and}
use Rattle.rx_commands.specs.FamilyShown.IsNoFamilyShown.{memory}
use Rattle.rx_commands.proofs.FamilyRefused.{books_not_shown, sheet_not_shown}
use Rattle.rx_commands.proofs.family.shown.show_family.Goals as goal

pub returns-in_err-figures-clause-refused : goal.returns-in_err-figures-clause-refused
returns-in_err-figures-clause-refused g c =
    let p = err_from_is_err_and c.from_residual.result c.from_residual.ensures.1 in
    rw (p.1, p.2) (sheet_not_shown (option_copied c.args.sheet) c.args.books.now c.in_err-figures.field-0.0 c.in_err-figures.ensures)

pub returns-in_err-books-clause-refused : goal.returns-in_err-books-clause-refused
returns-in_err-books-clause-refused g c =
    let p = err_from_is_err_and c.from_residual-in_err-books.result c.from_residual-in_err-books.ensures.1 in
    rw (p.1, p.2) (books_not_shown (option_copied c.args.sheet) c.args.books.now c.in_ok-figures.figures c.in_ok-figures.ensures
    c.in_err-books.field-0.0 c.in_err-books.ensures.refuses)

pub returns-in_err-portion-clause-refused : goal.returns-in_err-portion-clause-refused
returns-in_err-portion-clause-refused g c =
    let p = err_from_is_err_and c.from_residual-in_err-portion.result c.from_residual-in_err-portion.ensures.1 in
    rw (p.1, p.2) memory

pub returns-in_err-text-clause-refused : goal.returns-in_err-text-clause-refused
returns-in_err-text-clause-refused g c =
    let p = err_from_is_err_and c.from_residual-in_err-text.result c.from_residual-in_err-text.ensures.1 in
    rw (p.1, p.2) memory

pub returns-clause-shown : goal.returns-clause-shown
returns-clause-shown g c =
    record {
      figures = c.in_ok-figures.figures;
      opening = c.in_ok-books.books;
      portion = c.in_ok-portion.portion;
      sheet_is = c.in_ok-figures.ensures;
      books_are = c.in_ok-books.ensures.ok;
      asked = c.in_ok-portion.ensures;
      text_is = c.in_ok-text.ensures;
    }
