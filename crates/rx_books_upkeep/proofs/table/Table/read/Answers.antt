use Rattle.std.proofs.Common.{◌≡◌, ◌+◌, ℕ, List, take, drop, ap, ◌∙◌, true, false}
use Rattle.std.specs.Cmp.Lexicographic.{pointwise}
use Rattle.std.specs.Prelude.{nat_eq}
use Rattle.std.proofs.lemmas.Result.{err_from_is_err_and}
use Rattle.rx_books_text.proofs.Cuts.{lines_at, lines_none, to_end}
use Rattle.rx_books_upkeep.specs.Table.{headed, heading}
use Rattle.rx_books_upkeep.proofs.TableSteps.{heading_step, other_heading, turned_false, turned_true, unheaded, unless_so}
use Rattle.rx_books_upkeep.proofs.table.Table.read.Goals as goal

pub returns-in_default : goal.returns-in_default
returns-in_default c = unheaded c.args.text.now (lines_none c.args.text.now c.in_default.ensures)

pub returns-then-ne : goal.returns-then-ne
returns-then-ne c =
    let text : List ℕ = c.args.text.now in
    let at : ℕ = c.in-Some.end in
    let cut = lines_at text at c.in-Some.ensures.0.high c.in-Some.ensures.0.before c.in-Some.ensures.1 in
    let other : pointwise nat_eq (take at text) heading ≡ false = turned_false _ (rw c.as_slice.ensures at c.if-ne.ensures) in
    ap headed cut ∙ other_heading (take at text) (drop (at + 1) text) other

pub returns-in_err-read_rows : goal.returns-in_err-read_rows
returns-in_err-read_rows c =
    let error = err_from_is_err_and c.from_residual.result c.from_residual.ensures.1 in
    let text : List ℕ = c.args.text.now in
    let at : ℕ = c.in-Some.end in
    let cut = lines_at text at c.in-Some.ensures.0.high c.in-Some.ensures.0.before c.in-Some.ensures.1 in
    let same : pointwise nat_eq (take at text) heading ≡ true = turned_true _ (rw c.as_slice.ensures at c.if-ne.ensures) in
    let read = ap headed cut ∙ heading_step (take at text) (drop (at + 1) text) same in
    let fault = c.in_err-read_rows.field-0.0 in
    rw (error.1, error.2) (unless_so fault (λ is. read ∙ is)
    (rw (c.new.ensures.empty, to_end (at + 1) text) at c.in_err-read_rows.ensures))

pub returns : goal.returns
returns c =
    let text : List ℕ = c.args.text.now in
    let at : ℕ = c.in-Some.end in
    let cut = lines_at text at c.in-Some.ensures.0.high c.in-Some.ensures.0.before c.in-Some.ensures.1 in
    let same : pointwise nat_eq (take at text) heading ≡ true = turned_true _ (rw c.as_slice.ensures at c.if-ne.ensures) in
    ap headed cut ∙ heading_step (take at text) (drop (at + 1) text) same
    ∙ (rw (c.new.ensures.empty, to_end (at + 1) text) at c.in_ok-read_rows.ensures)
