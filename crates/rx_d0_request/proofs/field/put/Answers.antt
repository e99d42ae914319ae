use Rattle.std.proofs.Common.{◌≡◌, ◌<◌, length, get_or, true, false, None, sym, ap, ◌∙◌, arith}
use Rattle.std.specs.Prelude.{is_some}
use Rattle.std.proofs.lemmas.List.{get_or-map, length-map, map-set}
use Rattle.rx_d0_request.specs.Slots.{text_of, texts_of}
use Rattle.rx_d0_request.proofs.Puts.{put_taken, put_other, put_free, put_done, is_some_text}
use Rattle.rx_d0_request.proofs.field.put.Goals as goal
use Rattle.rx_d0_request.proofs.field.put.Goals.{then-is_same+else-is_some, else-is_same}

pub returns-then-is_some : goal.returns-then-is_some
returns-then-is_some c =
    let slots = c.loop-at.slots in
    let at = c.loop-at.at in
    let lengths : length (texts_of slots) ≡ length c.args.keys.now = omega (arith, length-map slots text_of) in
    let lt : at < length slots = omega arith in
    let slot : is_some (get_or (texts_of slots) at None) ≡ true = ap is_some (get_or-map text_of slots at None None lt)
    ∙ (is_some_text _ ∙ (sym c.is_some.ensures ∙ c.if-is_some.true)) in
    sym (put_taken c.args.keys.now c.args.key c.args.text.now (texts_of slots) at _ None _ c.loop-at-test.true lengths
    (sym c.is_same.ensures ∙ c.if-is_same.true) slot c.loop-at.invariant)

pub loop-at-preserved : goal.loop-at-preserved
loop-at-preserved c =
    let slots = c.loop-at.slots in
    let at = c.loop-at.at in
    let lengths : length (texts_of slots) ≡ length c.args.keys.now = omega (arith, length-map slots text_of) in
    let lt : at < length slots = omega arith in
    elim c.if-is_same.branch [
      | then-is_same+else-is_some w ↦
          let slot : is_some (get_or (texts_of slots) at None) ≡ false = ap is_some (get_or-map text_of slots at None None lt)
          ∙ (is_some_text _ ∙ (sym w.is_some.ensures ∙ w.if-is_some.false)) in
          rw (w.slots-is, map-set) (put_free c.args.keys.now c.args.key c.args.text.now
          (texts_of slots) at _ None _ c.loop-at-test.true lengths (sym c.is_same.ensures ∙ w.if-is_same.true) slot c.loop-at.invariant)
      | else-is_same w ↦
          rw w.slots-is (put_other c.args.keys.now c.args.key c.args.text.now (texts_of slots) at _ None _ c.loop-at-test.true lengths
          (sym c.is_same.ensures ∙ w.if-is_same.false) c.loop-at.invariant)
    ]

pub returns : goal.returns
returns c =
    let lengths : length (texts_of c.loop-at.slots) ≡ length c.args.keys.now = omega (arith, length-map c.loop-at.slots text_of) in
    sym (put_done c.args.keys.now c.args.key c.args.text.now (texts_of c.loop-at.slots) c.loop-at.at _ c.loop-at-test.false lengths
    c.loop-at.invariant)
