use Rattle.std.proofs.Common.{◌≡◌, ◌∙◌, ap, refl, IfErr}
use Rattle.std.proofs.lemmas.Result.{IfErr-at_err, err_from_is_err_and}
use Rattle.rx_wave.specs.Decoding.{transmissions_of}
use Rattle.rx_switch.specs.Fault.{of_batch}
use Rattle.rx_switch.specs.Job.{books_bytes, given_read}
use Rattle.rx_switch.specs.Output.IsRefused.{memory}
use Rattle.rx_switch.proofs.NoThread.{no_batch_thread}
use Rattle.rx_switch.proofs.Refusals.{batch_refused, books_refused}
use Rattle.rx_switch.proofs.accepting.read_books_and_batch.Goals as goal

pub returns-in_err-books-clause-refused : goal.returns-in_err-books-clause-refused
returns-in_err-books-clause-refused g c stamp sheet bytes s plan has stamped planned =
    let p = err_from_is_err_and c.from_residual.result c.from_residual.ensures.1 in
    let refuses = c.asked_and_books-asked.ensures.refuses in
    let fault = rw c.in_err-books.was at refuses in
    rw (p.1, p.2)
    (books_refused (given_read stamp c.args.workers sheet (books_bytes c.args.books) bytes) s stamped plan planned
    c.in_err-books.field-0.0 fault)

pub returns-in_err-batch-clause-refused : goal.returns-in_err-batch-clause-refused
returns-in_err-batch-clause-refused g c stamp sheet bytes s plan has stamped planned =
    let p = err_from_is_err_and c.from_residual-in_err-batch.result c.from_residual-in_err-batch.ensures.1 in
    let read = c.asked_and_books-asked.ensures.ok in
    let books = rw c.in_ok-books.was at read in
    let refuses = c.read-batch.ensures.refuses bytes has in
    let fault = rw c.in_err-batch.was at refuses in
    rw (p.1, p.2)
    (batch_refused (given_read stamp c.args.workers sheet (books_bytes c.args.books) bytes) s stamped plan planned
    c.in_ok-books.books.period c.in_ok-books.books.ledger books c.in_err-batch.field-0.0 fault)

pub returns-in_err-asked-clause-refused : goal.returns-in_err-asked-clause-refused
returns-in_err-asked-clause-refused g c stamp sheet bytes s plan has stamped planned =
    let p = err_from_is_err_and c.from_residual-in_err-asked.result c.from_residual-in_err-asked.ensures.1 in
    rw (p.1, p.2) (memory s stamped)

pub returns-clause-books : goal.returns-clause-books
returns-clause-books g c = let books = c.asked_and_books-asked.ensures.ok in rw c.in_ok-books.was at books

pub returns-clause-batch : goal.returns-clause-batch
returns-clause-batch g c bytes has = let batch = c.read-batch.ensures.ok bytes has in rw c.in_ok-batch.was at batch

pub returns-clause-asked : goal.returns-clause-asked
returns-clause-asked g c =
    let all = c.asked_and_books-asked.ensures.asked in
    let asked = rw c.in_ok-asked.was at all in
    let of = c.details_of-details.ensures in
    let details = rw c.in_ok-batch.was at of in
    asked ∙ ap (transmissions_of c.args.door.now) details

pub returns-in_err-batch-clause-no_thread : goal.returns-in_err-batch-clause-no_thread
returns-in_err-batch-clause-no_thread g c thread =
    let p = err_from_is_err_and c.from_residual-in_err-batch.result c.from_residual-in_err-batch.ensures.1 in
    let faults : IfErr c.from_residual-in_err-batch.result (λ f. f ≡ of_batch c.in_err-batch.field-0.0) = rw (p.1, p.2) refl in
    no_batch_thread c.in_err-batch.field-0.0 (IfErr-at_err (λ f. f ≡ of_batch c.in_err-batch.field-0.0) thread faults)
