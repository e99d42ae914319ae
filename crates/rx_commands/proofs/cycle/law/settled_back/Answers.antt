use Rattle.std.proofs.Common.{◌∙◌, ◌∷◌, [], None, subst}
use Rattle.std.specs.Prelude.{IfOk}
use Rattle.rx_commands.specs.Cycle.{IsCycleText}
use Rattle.rx_commands.proofs.CycleBack.{answered, as_many, read_back, settled_alone, settled_err, settled_ok}
use Rattle.rx_commands.proofs.cycle.law.settled_back.Goals as goal

pub write_batch-requires : goal.write_batch-requires
write_batch-requires g c =
    rw (
      c.deref.ensures.value,
      c.in_ok-answers.ensures.same,
      as_many c.args.details.now c.args.replies.now c.requires.equally_many,
    ) c.requires.within

pub returns-clause-ok : goal.returns-clause-ok
returns-clause-ok g c sent =
    let head = c.args.head.now in
    let stamp = c.args.stamp.now in
    let replies = c.args.replies.now in
    let back = read_back head stamp c.args.details.now replies c.in_ok-response.response.items c.in_ok-batch.batch.items
    c.asked_back.result c.deref.result.now sent c.requires.equally_many
    c.in_ok-answers.ensures.within c.asked_back.ensures (c.deref.ensures.value ∙ c.in_ok-answers.ensures.same) c.in_ok-batch.ensures.text
    c.in_ok-batch.ensures.again c.in_ok-response.ensures in
    settled_ok c.settle_alone.result _ _ (c.settle_alone.ensures.reads (answered head stamp replies) back)
    (settled_alone head stamp replies)

pub returns-clause-err : goal.returns-clause-err
returns-clause-err g c sent =
    let head = c.args.head.now in
    let stamp = c.args.stamp.now in
    let replies = c.args.replies.now in
    let back = read_back head stamp c.args.details.now replies c.in_ok-response.response.items c.in_ok-batch.batch.items
    c.asked_back.result c.deref.result.now sent c.requires.equally_many
    c.in_ok-answers.ensures.within c.asked_back.ensures (c.deref.ensures.value ∙ c.in_ok-answers.ensures.same) c.in_ok-batch.ensures.text
    c.in_ok-batch.ensures.again c.in_ok-response.ensures in
    settled_err c.settle_alone.result _ (c.settle_alone.ensures.reads (answered head stamp replies) back)

pub returns-clause-printed : goal.returns-clause-printed
returns-clause-printed g c =
    subst (λ t. IfOk c.settle_alone.result (λ text. IsCycleText (t ∷ []) None text.items)) c.in_ok-response.ensures
    c.settle_alone.ensures.printed
