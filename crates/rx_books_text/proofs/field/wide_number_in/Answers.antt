use Rattle.std.proofs.Common.{Some, ◌∙◌, sym, ap}
use Rattle.rx_books_text.proofs.TwentyDigits.{narrower, twenty, leading}
use Rattle.rx_books_text.proofs.field.wide_number_in.Goals as goal

pub returns-in_err-number : goal.returns-in_err-number
returns-in_err-number c = c.from_residual.ensures ∙ c.in_err-number.ensures ∙ narrower c.args.field.now c.if-field-ne20.true

pub returns-then-field-ne20 : goal.returns-then-field-ne20
returns-then-field-ne20 c =
    ap Some c.from.ensures ∙ c.in_ok-number.ensures ∙ narrower c.args.field.now c.if-field-ne20.true

pub returns-then-begins_zero : goal.returns-then-begins_zero
returns-then-begins_zero c = leading c.args.field.now c.if-field-ne20.false (sym c.begins_zero.ensures ∙ c.if-begins_zero.true)

pub returns : goal.returns
returns c =
    let bs = c.args.field.now in
    rw (c.split_at.ensures.front, c.split_at.ensures.back) at c.joined_number.ensures
    ∙ twenty bs c.if-field-ne20.false (sym c.begins_zero.ensures ∙ c.if-begins_zero.false)
