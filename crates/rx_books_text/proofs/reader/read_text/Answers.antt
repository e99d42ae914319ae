use Rattle.std.proofs.Common.{◌+◌, ℕ, List, take, drop, Some, None, ◌∙◌}
use Rattle.std.proofs.lemmas.Result.{err_from_is_err_and}
use Rattle.rx_books_text.proofs.Cuts.{lines_at, lines_none, to_end}
use Rattle.rx_books_text.proofs.TextSteps.{headless, read_behind, unless_so}
use Rattle.rx_books_text.proofs.reader.read_text.Goals as goal

pub returns-in_default : goal.returns-in_default
returns-in_default c =
    let few = rw c.line_feeds.ensures at c.if-line_feeds-gt-MOST_LINES.false in
    headless c.args.text.now few (lines_none c.args.text.now c.in_default.ensures)

pub returns-in_default-read_head : goal.returns-in_default-read_head
returns-in_default-read_head c =
    let few = rw c.line_feeds.ensures at c.if-line_feeds-gt-MOST_LINES.false in
    let text : List ℕ = c.args.text.now in
    let at : ℕ = c.in-Some.end in
    let cut = lines_at text at c.in-Some.ensures.0.high c.in-Some.ensures.0.before c.in-Some.ensures.1 in
    read_behind text (take at text) (drop (at + 1) text) None few cut c.in_default-read_head.ensures.value

pub returns-in_err-read_lines : goal.returns-in_err-read_lines
returns-in_err-read_lines c =
    let error = err_from_is_err_and c.from_residual.result c.from_residual.ensures.1 in
    let few = rw c.line_feeds.ensures at c.if-line_feeds-gt-MOST_LINES.false in
    let text : List ℕ = c.args.text.now in
    let at : ℕ = c.in-Some.end in
    let cut = lines_at text at c.in-Some.ensures.0.high c.in-Some.ensures.0.before c.in-Some.ensures.1 in
    let read = read_behind text (take at text) (drop (at + 1) text) (Some c.in-Some-read_head.head) few cut
    c.in-Some-read_head.ensures.value in
    let fault = c.in_err-read_lines.field-0.0 in
    rw (error.1, error.2) (unless_so fault (λ is. read ∙ is)
    (rw (c.new-printed.ensures, to_end (at + 1) text) at c.in_err-read_lines.ensures))

pub returns : goal.returns
returns c =
    let few = rw c.line_feeds.ensures at c.if-line_feeds-gt-MOST_LINES.false in
    let text : List ℕ = c.args.text.now in
    let at : ℕ = c.in-Some.end in
    let cut = lines_at text at c.in-Some.ensures.0.high c.in-Some.ensures.0.before c.in-Some.ensures.1 in
    let read = read_behind text (take at text) (drop (at + 1) text) (Some c.in-Some-read_head.head) few cut
    c.in-Some-read_head.ensures.value in
    read ∙ (rw (c.new-printed.ensures, to_end (at + 1) text) at c.in_ok-read_lines.ensures)
