use Rattle.std.proofs.Common.{◌∙◌, IfErr, refl, sym}
use Rattle.std.proofs.lemmas.Result.{IfErr-at_err, IfErr-weaker, on_ok_weaker, err_from_is_err_and}
use Rattle.rx_switch.specs.Devices.{IsUnread, IsUnwritten, left_of}
use Rattle.rx_switch.specs.Devices.IsBroken.{unread, refused, unwritten}
use Rattle.rx_switch.specs.Job.{given_read}
use Rattle.rx_switch.specs.Rendered.{texts_made}
use Rattle.rx_io.specs.declared.device.Device.TheVariants as device
use Rattle.rx_switch.proofs.Unread.{given_is, unread_without_thread}
use Rattle.rx_switch.proofs.Unwritten.{only_outputs, unwritten_without_thread}
use Rattle.rx_switch.proofs.on_devices.run_io.Goals as goal

pub returns-in_err-read-clause-broken : goal.returns-in_err-read-clause-broken
returns-in_err-read-clause-broken g c =
    let p = err_from_is_err_and c.from_residual.result c.from_residual.ensures.1 in
    rw (p.1, p.2) (unread c.in_err-read.field-0.0 c.in_err-read.ensures.unread refl)

pub returns-in_err-read-clause-thread : goal.returns-in_err-read-clause-thread
returns-in_err-read-clause-thread g c =
    let p = err_from_is_err_and c.from_residual.result c.from_residual.ensures.1 in
    let left = left_of g.A.Source.left g.B.Source.left g.C.Source.left in
    let before = left c.args.inputs.now in
    let after = left c.read_inputs.new.inputs in
    let broken : IfErr c.from_residual.result (IsUnread before after) = rw (p.1, p.2) c.in_err-read.ensures.unread in
    λ thread. absurd (unread_without_thread (IfErr-at_err (IsUnread before after) thread broken) refl)

pub returns-in_err-pieces-clause-broken : goal.returns-in_err-pieces-clause-broken
returns-in_err-pieces-clause-broken g c =
    let p = err_from_is_err_and c.from_residual-in_err-pieces.result c.from_residual-in_err-pieces.ensures.1 in
    let read = c.in_ok-read.ensures.read in
    rw (p.1, p.2)
    (refused _ c.in_err-pieces.field-0.0 (given_is c.args.stamp.now c.args.workers _ _ _ _ _ read)
    (c.in_err-pieces.ensures.refused read.batch_is.bytes read.batch_is.stands) refl)

pub returns-clause-done : goal.returns-clause-done
returns-clause-done g c =
    let read = c.in_ok-read.ensures.read in
    on_ok_weaker c.write_outputs-written.result (λ all. record {
      g = given_read c.args.stamp.now c.args.workers c.in_ok-read.read.sheet.items c.in_ok-read.read.books.items read.batch_is.bytes;
      texts = texts_made c.in_ok-pieces.field-0;
      given_is = given_is c.args.stamp.now c.args.workers _ _ _ _ _ read;
      texts_are = c.in_ok-pieces.ensures.output read.batch_is.bytes read.batch_is.stands;
      written_are = all;
    }) c.write_outputs-written.ensures.done

pub returns-clause-broken : goal.returns-clause-broken
returns-clause-broken g c =
    let read = c.in_ok-read.ensures.read in
    IfErr-weaker c.write_outputs-written.result _ _
    (λ f broken. unwritten _ (texts_made c.in_ok-pieces.field-0) f (given_is c.args.stamp.now c.args.workers _ _ _ _ _ read)
    (c.in_ok-pieces.ensures.output read.batch_is.bytes read.batch_is.stands) broken)
    c.write_outputs-written.ensures.unwritten

pub returns-clause-sheet : goal.returns-clause-sheet
returns-clause-sheet g c =
    c.in_ok-read.ensures.sheet ∙ sym (only_outputs device.Sheet refl refl refl _ _ _ c.write_outputs-written.result
    c.write_outputs-written.ensures.unwritten)

pub returns-clause-books : goal.returns-clause-books
returns-clause-books g c =
    c.in_ok-read.ensures.books ∙ sym (only_outputs device.Books refl refl refl _ _ _ c.write_outputs-written.result
    c.write_outputs-written.ensures.unwritten)

pub returns-clause-batch : goal.returns-clause-batch
returns-clause-batch g c =
    c.in_ok-read.ensures.batch ∙ sym (only_outputs device.Batch refl refl refl _ _ _ c.write_outputs-written.result
    c.write_outputs-written.ensures.unwritten)

pub returns-clause-thread : goal.returns-clause-thread
returns-clause-thread g c thread =
    absurd (unwritten_without_thread (IfErr-at_err (IsUnwritten _ _ _) thread c.write_outputs-written.ensures.unwritten) refl)
