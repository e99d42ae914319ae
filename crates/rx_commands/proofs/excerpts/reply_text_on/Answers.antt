-- The terms are those of the whole sheet.
use Rattle.std.proofs.Common.{◌≡◌, ◌∙◌, ap, subst}
use Rattle.std.specs.Prelude.{IfOk}
use Rattle.rx_d0_reply.specs.Text.{reply_text}
use Rattle.rx_d0_values.specs.declared.reply.Reply.{Reply}
use Rattle.rx_fields.specs.Numbered.{LotParts}
use Rattle.rx_ledger.specs.Fold.{reply_to}
use Rattle.rx_ledger.proofs.Held.{HoldsRecord-whole}
use Rattle.rx_commands.proofs.excerpts.reply_text_on.Goals as goal

pub answer_record-requires-clause-held : goal.answer_record-requires-clause-held
answer_record-requires-clause-held c = HoldsRecord-whole c.args.ledger c.args.own.now.transmission.now.body

pub returns : goal.returns
returns c =
    let job = c.args.job.now in
    let own = c.args.own.now in
    subst (λ (r : Reply). IfOk c.encode-text.result (λ text. text.items ≡ reply_text r))
    (c.in_ok-reply.ensures.value ∙ c.terms-terms.ensures.same_reply own.place c.args.ledger
    ∙ ap (λ (lot : LotParts). reply_to lot job.sheet.now own.place own.transmission.now c.args.ledger) c.lot.ensures)
    c.encode-text.ensures.text
