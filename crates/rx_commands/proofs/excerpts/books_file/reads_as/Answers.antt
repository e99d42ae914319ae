use Rattle.std.proofs.Common.{◌≡◌, false, rules}
use Rattle.rx_books_text.specs.Fault.{wants_memory}
use Rattle.rx_commands.proofs.ExcerptBooks.{of_fault, of_read}
use Rattle.rx_commands.proofs.excerpts.books_file.reads_as.Goals as goal

pub returns-in-Ok : goal.returns-in-Ok
returns-in-Ok c =
    of_read c.args.text.now c.args.books.now c.in-Ok.read c.eq-is_same.result c.in-Ok.ensures.ok c.in-Ok.ensures.reads
    c.eq-is_same.ensures

pub returns-in-Err : goal.returns-in-Err
returns-in-Err c =
    let other : wants_memory c.in-Err.field-0 ≡ false = search rules in
    of_fault c.args.text.now c.args.books.now c.in-Err.field-0 other c.in-Err.ensures.reads
