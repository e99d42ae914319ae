use Rattle.std.proofs.Common.{refl}
use Rattle.std.proofs.lemmas.Result.{err_from_is_err_and}
use Rattle.rx_switch.specs.Devices.IsUnread.{sheet, books, batch}
use Rattle.rx_switch.proofs.inputs.read_inputs.Goals as goal

pub returns-in_err-sheet-clause-unread : goal.returns-in_err-sheet-clause-unread
returns-in_err-sheet-clause-unread g c =
    let p = err_from_is_err_and c.from_residual.result c.from_residual.ensures.1 in
    rw (p.1, p.2) (sheet c.in_err-sheet.ensures.unread refl refl)

pub returns-in_err-books-clause-unread : goal.returns-in_err-books-clause-unread
returns-in_err-books-clause-unread g c =
    let p = err_from_is_err_and c.from_residual-in_err-books.result c.from_residual-in_err-books.ensures.1 in
    rw (p.1, p.2) (books c.in_ok-sheet.sheet.items c.in_ok-sheet.ensures.read c.in_err-books.ensures.unread refl)

pub returns-in_err-batch-clause-unread : goal.returns-in_err-batch-clause-unread
returns-in_err-batch-clause-unread g c =
    let p = err_from_is_err_and c.from_residual-in_err-batch.result c.from_residual-in_err-batch.ensures.1 in
    rw (p.1, p.2)
    (batch c.in_ok-sheet.sheet.items c.in_ok-books.books.items c.in_ok-sheet.ensures.read c.in_ok-books.ensures.read
    c.in_err-batch.ensures.unread)
