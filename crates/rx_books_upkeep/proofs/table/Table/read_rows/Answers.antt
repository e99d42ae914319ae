use Rattle.std.proofs.Common.{◌≡◌, ◌+◌, ℕ, List, length, take, drop, sym, ap, ◌∙◌, arith, eqb, length-drop, true, false, refl}
use Rattle.std.proofs.lemmas.Result.{err_from_is_err_and}
use Rattle.rx_books_text.specs.TextReading.{lines}
use Rattle.rx_books_text.proofs.Cuts.{lines_at, lines_none, to_end}
use Rattle.rx_books_upkeep.specs.Table.{Entries, rows_read}
use Rattle.rx_books_upkeep.proofs.TableSteps.{rows_step, rows_fault, rows_over, unless_so}
use Rattle.rx_books_upkeep.proofs.table.Table.read_rows.Goals as goal

pub returns-in_err-read_row : goal.returns-in_err-read_row
returns-in_err-read_row c =
    let error = err_from_is_err_and c.from_residual.result c.from_residual.ensures.1 in
    let n : ℕ = c.loop-end.number in
    let p : Entries = c.loop-end.self in
    let rest : List ℕ = c.loop-end.rest.now in
    let at : ℕ = c.in-Some.end in
    let cut = lines_at rest at c.in-Some.ensures.0.high c.in-Some.ensures.0.before c.in-Some.ensures.1 in
    let fault = c.in_err-read_row.field-0.0 in
    rw (error.1, error.2) (unless_so fault
    (λ read. c.loop-end.invariant.same ∙ ap (rows_read n p) cut
    ∙ rows_fault n p (take at rest) (drop (at + 1) rest) fault read)
    c.in_err-read_row.ensures)

pub loop-end-preserved : goal.loop-end-preserved
loop-end-preserved c =
    let n : ℕ = c.loop-end.number in
    let p : Entries = c.loop-end.self in
    let q : Entries = c.read_row.new.self in
    let rest : List ℕ = c.loop-end.rest.now in
    let at : ℕ = c.in-Some.end in
    let cut = lines_at rest at c.in-Some.ensures.0.high c.in-Some.ensures.0.before c.in-Some.ensures.1 in
    record {
      same = c.loop-end.invariant.same ∙ ap (rows_read n p) cut
          ∙ rows_step n p q (take at rest) (drop (at + 1) rest) c.in_ok-read_row.ensures
          ∙ ap (λ (t : List ℕ). rows_read (n + 1) q (lines t)) (sym (to_end (at + 1) rest));
      count = rw (to_end (at + 1) rest)
          (omega (arith, c.loop-end.invariant.count, c.in-Some.ensures.0.high, length-drop (at + 1) rest));
    }

pub returns : goal.returns
returns c =
    let rest = c.loop-end.rest.now in
    let empty : eqb (length rest) 0 ≡ true = sym c.is_empty.ensures ∙ c.if-not-is_empty.false in
    c.loop-end.invariant.same ∙ ap (rows_read c.loop-end.number c.loop-end.self) (lines_none rest c.in_default.ensures)
    ∙ rows_over c.loop-end.number c.loop-end.self rest
    ∙ rw empty refl

pub returns-then-not-is_empty : goal.returns-then-not-is_empty
returns-then-not-is_empty c =
    let rest = c.loop-end.rest.now in
    let some : eqb (length rest) 0 ≡ false = sym c.is_empty.ensures ∙ c.if-not-is_empty.true in
    c.loop-end.invariant.same ∙ ap (rows_read c.loop-end.number c.loop-end.self) (lines_none rest c.in_default.ensures)
    ∙ rows_over c.loop-end.number c.loop-end.self rest
    ∙ rw some refl
