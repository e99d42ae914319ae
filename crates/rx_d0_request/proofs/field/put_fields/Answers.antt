use Rattle.std.proofs.Common.{List, ℕ, map, sym, ap, ◌∙◌, arith}
use Rattle.rx_d0_request.specs.Cut.{field_of, further}
use Rattle.rx_d0_request.specs.Slots.{texts_of}
use Rattle.rx_d0_request.proofs.Runs.{run_fields, run_on, run_off, fields_total, empty_length}
use Rattle.rx_d0_request.proofs.field.put_fields.Goals as goal

pub loop-piece-init : goal.loop-piece-init
loop-piece-init c =
    ap (λ (pieces : List (List ℕ)). run_fields c.args.ids.now (texts_of c.args.slots.now) (map field_of pieces))
    (c.next-front.ensures.rest ∙ ap further c.new-pieces.ensures)

pub put_field-requires : goal.put_field-requires
put_field-requires c = omega (arith, empty_length c.args.ids.now c.args.slots.now c.requires)

pub loop-piece-preserved : goal.loop-piece-preserved
loop-piece-preserved c =
    run_on c.args.ids.now (texts_of c.loop-piece.slots) (texts_of c.put_field.new.slots) c.loop-piece.pieces c.next.new.self
    c.in-Some.piece.now _
    c.in-Some.ensures.value (sym c.in_ok-put_field.ensures) c.loop-piece.invariant

pub returns-in_err-put_field : goal.returns-in_err-put_field
returns-in_err-put_field c =
    let none = run_off c.args.ids.now (texts_of c.loop-piece.slots) c.loop-piece.pieces c.next.new.self c.in-Some.piece.now _
    c.in-Some.ensures.value (sym c.in_err-put_field.ensures) c.loop-piece.invariant in
    rw c.from_residual.ensures (sym none ∙ fields_total c.args.ids.now (texts_of c.args.slots.now) c.args.segment.now c.requires)

pub returns : goal.returns
returns c =
    let ended = ap (λ (pieces : List (List ℕ)). run_fields c.args.ids.now (texts_of c.loop-piece.slots) (map field_of pieces))
    c.in_default.ensures.value in
    sym ended ∙ (c.loop-piece.invariant ∙ fields_total c.args.ids.now (texts_of c.args.slots.now) c.args.segment.now c.requires)
