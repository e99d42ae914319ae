use Rattle.std.proofs.Common.{◌≡◌, ◌+◌, ℕ, List, length, take, drop, sym, ap, ◌∙◌, arith, eqb, length-drop, true, false, refl}
use Rattle.std.proofs.lemmas.Result.{err_from_is_err_and}
use Rattle.rx_books_text.specs.Printed.{PrintedParts}
use Rattle.rx_books_text.specs.TextReading.{lines, lines_read}
use Rattle.rx_books_text.proofs.Cuts.{lines_at, lines_none, to_end}
use Rattle.rx_books_text.proofs.TextSteps.{lines_step, lines_fault, lines_over, unless_so}
use Rattle.rx_books_text.proofs.printed.Printed.read_lines.Goals as goal

pub returns-in_err-read_line : goal.returns-in_err-read_line
returns-in_err-read_line c =
    let error = err_from_is_err_and c.from_residual.result c.from_residual.ensures.1 in
    let n : ℕ = c.loop-end.number in
    let p : PrintedParts = c.loop-end.self in
    let rest : List ℕ = c.loop-end.rest.now in
    let at : ℕ = c.in-Some.end in
    let cut = lines_at rest at c.in-Some.ensures.0.high c.in-Some.ensures.0.before c.in-Some.ensures.1 in
    let fault = c.in_err-read_line.field-0.0 in
    rw (error.1, error.2) (unless_so fault
    (λ read. c.loop-end.invariant.same ∙ ap (lines_read n p) cut
    ∙ lines_fault n p (take at rest) (drop (at + 1) rest) fault read)
    c.in_err-read_line.ensures)

pub loop-end-preserved : goal.loop-end-preserved
loop-end-preserved c =
    let n : ℕ = c.loop-end.number in
    let p : PrintedParts = c.loop-end.self in
    let q : PrintedParts = c.read_line.new.self in
    let rest : List ℕ = c.loop-end.rest.now in
    let at : ℕ = c.in-Some.end in
    let cut = lines_at rest at c.in-Some.ensures.0.high c.in-Some.ensures.0.before c.in-Some.ensures.1 in
    record {
      same = c.loop-end.invariant.same ∙ ap (lines_read n p) cut
          ∙ lines_step n p q (take at rest) (drop (at + 1) rest) c.in_ok-read_line.ensures
          ∙ ap (λ (t : List ℕ). lines_read (n + 1) q (lines t)) (sym (to_end (at + 1) rest));
      count = rw (to_end (at + 1) rest)
          (omega (arith, c.loop-end.invariant.count, c.in-Some.ensures.0.high, length-drop (at + 1) rest));
    }

pub returns-then-is_empty : goal.returns-then-is_empty
returns-then-is_empty c =
    let rest = c.loop-end.rest.now in
    let empty : eqb (length rest) 0 ≡ true = sym c.is_empty.ensures ∙ c.if-is_empty.true in
    c.loop-end.invariant.same ∙ ap (lines_read c.loop-end.number c.loop-end.self) (lines_none rest c.in_default.ensures)
    ∙ lines_over c.loop-end.number c.loop-end.self rest
    ∙ rw empty refl

pub returns-else-is_empty : goal.returns-else-is_empty
returns-else-is_empty c =
    let rest = c.loop-end.rest.now in
    let some : eqb (length rest) 0 ≡ false = sym c.is_empty.ensures ∙ c.if-is_empty.false in
    c.loop-end.invariant.same ∙ ap (lines_read c.loop-end.number c.loop-end.self) (lines_none rest c.in_default.ensures)
    ∙ lines_over c.loop-end.number c.loop-end.self rest
    ∙ rw some refl
