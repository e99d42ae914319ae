use Rattle.std.proofs.Common.{ℕ, List, ◌+◌, ◌≤◌, ◌≡◌, eqb, count_by, length, drop, take, ◌-◌, sym, ap, ◌∙◌, arith}
use Rattle.std.specs.Prelude.{count_ones}
use Rattle.std.proofs.lemmas.List.{length-drop}
use Rattle.rx_d0_request.proofs.Bits.{count_marks, count_last, marks_few}
use Rattle.rx_d0_request.proofs.Cuts.{to_end}
use Rattle.rx_d0_request.proofs.marks.count_of.Goals as goal

pub overflow_add-count : goal.overflow_add-count
overflow_add-count c = omega (
  arith,
  (marks_few c.args.byte c.window_marks.result c.loop-rest.rest.now c.window_marks.ensures).1,
  c.loop-rest.invariant.passed,
)

pub overflow_add-result : goal.overflow_add-result
overflow_add-result c = omega (
  arith,
  (marks_few c.args.byte c.first_marks.result c.loop-rest.rest.now c.first_marks.ensures).1,
  c.loop-rest.invariant.passed,
)

pub loop-rest-preserved : goal.loop-rest-preserved
loop-rest-preserved c =
    let rest = c.loop-rest.rest.now in
    let marks = c.window_marks.result in
    let count = c.loop-rest.count in
    let step = count_marks c.args.byte count marks rest c.window_marks.ensures in
    let few : count_ones marks ≤ 64 = (marks_few c.args.byte marks rest c.window_marks.ensures).0 in
    let end : length (take (length rest - 64) (drop 64 rest)) ≡ length (drop 64 rest) = ap length (to_end 64 rest) in
    record {
      counted = ap (λ (l : List ℕ). count + count_ones marks + count_by (λ b. eqb b c.args.byte) l) (to_end 64 rest)
          ∙ (sym step ∙ c.loop-rest.invariant.counted);
      passed = omega (arith, few, end, length-drop 64 rest, c.loop-rest.invariant.passed, c.loop-rest-test.true);
    }

pub returns : goal.returns
returns c =
    ap (λ (n : ℕ). c.loop-rest.count + n) (count_last c.args.byte c.first_marks.result c.loop-rest.rest.now c.loop-rest-test.false
    c.first_marks.ensures)
    ∙ c.loop-rest.invariant.counted
