-- The record is awaited, and its reply and ledger are those of the whole sheet.
use Rattle.std.proofs.Common.{◌+◌, ◌++◌, [], ◌∷◌, ◌∙◌, ap, get_or, refl}
use Rattle.rx_d0_values.specs.declared.reply.Reply.{Reply}
use Rattle.rx_d0_values.specs.declared.transmission.Transmission.{Transmission}
use Rattle.rx_commands.proofs.Courses.{course_more}
use Rattle.rx_commands.proofs.replay.course.go_on.Goals as goal

pub record-requires-clause-awaited : goal.record-requires-clause-awaited
record-requires-clause-awaited c =
    c.requires.course.awaited c.args.course.now.done c.index-batch-course.result c.requires.ahead

pub returns-clause-course : goal.returns-clause-course
returns-clause-course c =
    let asked = c.args.batch.now.asked.now in
    let done = c.args.course.now.done in
    let L = c.args.course.now.order.books.ledger in
    let t = get_or asked done c.index-batch-course.result in
    course_more c.args.batch.now c.args.course.now _ t c.requires.course c.requires.ahead
    (ap (λ (u : Transmission). get_or asked done u) c.index-batch-course.is) refl
    (c.in_ok-reply.ensures.after ∙ c.terms-terms.ensures.same_ledger (done + 1) L)
    (c.in_ok-push.ensures.items
    ∙ ap (λ (r : Reply). c.args.course.now.replies.items ++ r ∷ [])
    (c.in_ok-reply.ensures.value ∙ c.terms-terms.ensures.same_reply (done + 1) L))
    c.in_ok-reply.ensures.scope
