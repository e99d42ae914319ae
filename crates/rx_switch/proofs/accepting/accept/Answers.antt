use Rattle.std.proofs.Common.{◌≡◌, sym, Err, IfErr, ap, ◌∙◌}
use Rattle.std.proofs.lemmas.Result.{IfErr-at_err, err_from_is_err_and}
use Rattle.rx_wave.specs.Decoding.{transmissions_of}
use Rattle.rx_switch.specs.Job.{books_bytes, given_read}
use Rattle.rx_switch.specs.Output.{stamp_for}
use Rattle.rx_switch.specs.Output.IsRefused.{words}
use Rattle.rx_switch.proofs.NoThread.{never_thread}
use Rattle.rx_switch.proofs.Refusals.{sheet_refused}
use Rattle.rx_switch.proofs.accepting.accept.Goals as goal

pub returns-in_err-stamp-clause-refused : goal.returns-in_err-stamp-clause-refused
returns-in_err-stamp-clause-refused g c bytes has =
    let p = err_from_is_err_and c.from_residual.result c.from_residual.ensures.1 in
    rw (p.1, p.2) (words c.in_err-stamp.field-0.0 (sym c.in_err-stamp.ensures))

pub returns-in_err-sheet-clause-refused : goal.returns-in_err-sheet-clause-refused
returns-in_err-sheet-clause-refused g c bytes has =
    let p = err_from_is_err_and c.from_residual-in_err-sheet.result c.from_residual-in_err-sheet.ensures.1 in
    rw (p.1, p.2)
    (sheet_refused (given_read c.args.stamp.now c.args.workers c.args.sheet.now (books_bytes c.args.books) bytes)
    c.in_ok-stamp.stamp (sym c.in_ok-stamp.ensures)
    c.in_err-sheet.field-0.0 c.in_err-sheet.ensures)

pub returns-in_err-opened-clause-refused : goal.returns-in_err-opened-clause-refused
returns-in_err-opened-clause-refused g c bytes has =
    let p = err_from_is_err_and c.from_residual-in_err-opened.result c.from_residual-in_err-opened.ensures.1 in
    rw (p.1, p.2)
    (c.in_err-opened.ensures.refused c.args.stamp.now c.args.sheet.now bytes c.in_ok-stamp.stamp c.in_ok-sheet.sheet has
    (sym c.in_ok-stamp.ensures) c.in_ok-sheet.ensures)

pub returns-clause-accepted : goal.returns-clause-accepted
returns-clause-accepted g c bytes has =
    record {
      stamp = sym c.in_ok-stamp.ensures;
      sheet = c.in_ok-sheet.ensures;
      books = c.in_ok-opened.ensures.books;
      batch = c.in_ok-opened.ensures.batch bytes has;
    }

pub returns-clause-asked : goal.returns-clause-asked
returns-clause-asked g c =
    c.in_ok-opened.ensures.asked ∙ ap (λ door. transmissions_of door c.in_ok-opened.opened.batch.details) c.door.ensures

pub returns-in_err-stamp-clause-no_thread : goal.returns-in_err-stamp-clause-no_thread
returns-in_err-stamp-clause-no_thread g c thread =
    let p = err_from_is_err_and c.from_residual.result c.from_residual.ensures.1 in
    let refused : IfErr c.from_residual.result (λ f. stamp_for c.args.workers c.args.stamp.now ≡ Err f) =
    rw (p.1, p.2) (sym c.in_err-stamp.ensures) in
    never_thread c.args.workers c.args.stamp.now
    (IfErr-at_err (λ f. stamp_for c.args.workers c.args.stamp.now ≡ Err f) thread refused)
