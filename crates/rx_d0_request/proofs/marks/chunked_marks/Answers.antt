use Rattle.std.proofs.Common.{List, ℕ, ◌≡◌, ◌<◌, ◌≤◌, ◌+◌, ◌-◌, ◌/◌, ◌%◌, ◌^◌, length, take, drop, ap, ◌∙◌, arith}
use Rattle.std.proofs.lemmas.List.{length-take}
use Rattle.rx_d0_request.specs.Marks.{marks_of}
use Rattle.rx_d0_request.proofs.Bits.{marks_below, marks_fit, marks_before, marks_over}
use Rattle.rx_d0_request.proofs.Cuts.{to_end}
use Rattle.rx_d0_request.proofs.marks.chunked_marks.Goals as goal

pub loop-at-init : goal.loop-at-init
loop-at-init c =
    let text = c.args.text.now in
    let left = length text % 16 in
    let last = ap (λ (l : List ℕ). marks_of c.args.byte (take 16 l)) (to_end (length text - 16) text) in
    record {
      behind =
          ap (λ n. n / 2 ^ (16 - left)) (c.chunk_marks.ensures ∙ last)
          ∙ marks_over c.args.byte left text (omega arith) c.requires.some;
      within = omega arith;
      whole = omega arith;
    }

pub overflow_add-marks : goal.overflow_add-marks
overflow_add-marks c =
    let byte = c.args.byte in
    let text = c.args.text.now in
    let at = c.loop-at.at in
    let rest = take (length text - (at - 16)) (drop (at - 16) text) in
    let chunk = marks_below byte 16 (take 16 rest) (omega (arith, length-take 16 rest)) in
    let few : c.chunk_marks-in-loop-at.result < 2 ^ 16 = omega (arith, c.chunk_marks-in-loop-at.ensures, chunk) in
    let short : length text ≤ 47 + at = omega (arith, c.requires.few, c.loop-at.invariant.whole, c.loop-at-test.true) in
    let fit : c.loop-at.marks < 2 ^ 47 = omega (arith, c.loop-at.invariant.behind, marks_fit byte at 47 text short) in
    omega (arith, few, fit)

pub loop-at-preserved : goal.loop-at-preserved
loop-at-preserved c =
    let byte = c.args.byte in
    let text = c.args.text.now in
    let at = c.loop-at.at in
    let short : length text ≤ 47 + at = omega (arith, c.requires.few, c.loop-at.invariant.whole, c.loop-at-test.true) in
    let fit : c.loop-at.marks < 2 ^ 47 = omega (arith, c.loop-at.invariant.behind, marks_fit byte at 47 text short) in
    let some : 16 ≤ at = omega (arith, c.loop-at.invariant.whole, c.loop-at-test.true) in
    let chunk : c.chunk_marks-in-loop-at.result ≡ marks_of byte (take 16 (drop (at - 16) text)) =
    c.chunk_marks-in-loop-at.ensures ∙ ap (λ (l : List ℕ). marks_of byte (take 16 l)) (to_end (at - 16) text) in
    let before = marks_before byte 16 at text some c.loop-at.invariant.within in
    record {
      behind = omega (arith, c.loop-at.invariant.behind, fit, chunk, before);
      within = omega (arith, c.loop-at.invariant.within);
      whole = omega (arith, c.loop-at.invariant.whole, some);
    }
