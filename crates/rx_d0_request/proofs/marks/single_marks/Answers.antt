use Rattle.std.proofs.Common.{◌<◌, ◌≤◌, ◌-◌, ◌^◌, eqb, get_or, inl, inr, arith}
use Rattle.std.proofs.lemmas.Bool.{cases_Bool}
use Rattle.rx_d0_request.proofs.Bits.{marks_fit}
use Rattle.rx_d0_request.proofs.marks.single_marks.Goals as goal

pub overflow_mul-marks : goal.overflow_mul-marks
overflow_mul-marks c =
    let few = marks_fit c.args.byte c.loop-at.at 15 c.args.text.now (omega (arith, c.requires)) in
    let fit : c.loop-at.marks < 2 ^ 15 = omega (arith, c.loop-at.invariant.behind, few) in
    omega (arith, fit)

pub overflow_add-marks : goal.overflow_add-marks
overflow_add-marks c =
    let few = marks_fit c.args.byte c.loop-at.at 15 c.args.text.now (omega (arith, c.requires)) in
    let fit : c.loop-at.marks < 2 ^ 15 = omega (arith, c.loop-at.invariant.behind, few) in
    let byte = get_or c.args.text.now (c.loop-at.at - 1) 0 in
    let flag : c.from.result ≤ 1 =
    rw c.from.ensures (elim (cases_Bool (eqb byte c.args.byte)) [ inl e ↦ rw e (omega arith) | inr e ↦ rw e (omega arith) ]) in
    omega (arith, fit, flag)
