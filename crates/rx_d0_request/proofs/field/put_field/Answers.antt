use Rattle.std.proofs.Common.{List, ℕ, take, eqb, length, sym, ap, ◌∙◌, arith}
use Rattle.rx_fields.specs.Text.{trimmed}
use Rattle.rx_d0_request.specs.Slots.{texts_of, put}
use Rattle.rx_d0_request.proofs.Fields.{two_bytes, put_field_short, put_field_empty, put_field_full}
use Rattle.rx_d0_request.proofs.field.put_field.Goals as goal

pub returns-then-piece-lt2 : goal.returns-then-piece-lt2
returns-then-piece-lt2 c = sym (put_field_short c.args.ids.now c.args.piece.now (texts_of c.args.slots.now) c.if-piece-lt2.true)

pub returns-then-is_empty : goal.returns-then-is_empty
returns-then-is_empty c =
    let value = c.trimmed-value.ensures ∙ ap trimmed c.split_at.ensures.back in
    sym (put_field_empty c.args.ids.now c.args.piece.now (texts_of c.args.slots.now)
    (c.if-is_empty.ensures ∙ ap (λ (v : List ℕ). eqb (length v) 0) value))

pub returns : goal.returns
returns c =
    let ids = c.args.ids.now in
    let piece = c.args.piece.now in
    let slots = texts_of c.args.slots.now in
    let value = c.trimmed-value.ensures ∙ ap trimmed c.split_at.ensures.back in
    let id = two_bytes piece _ c.split_at.ensures.front (omega arith) in
    let e = put_field_full ids piece slots (c.if-is_empty.ensures ∙ ap (λ (v : List ℕ). eqb (length v) 0) value) in
    c.put.ensures ∙ (ap (λ (key : List ℕ). put ids key c.trimmed-value.result.now slots) id
    ∙ (ap (λ (v : List ℕ). put ids (take 2 piece) v slots) value ∙ sym e))
