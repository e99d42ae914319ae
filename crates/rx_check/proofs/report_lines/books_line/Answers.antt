use Rattle.std.proofs.Common.{Some}
use Rattle.rx_check.specs.Wording.{AreBooksWords}
use Rattle.rx_check.proofs.Reports.{tells}
use Rattle.rx_check.proofs.report_lines.books_line.Goals as goal

pub returns-in_ok-books_words-in-Some-Some : goal.returns-in_ok-books_words-in-Some-Some
returns-in_ok-books_words-in-Some-Some c =
    let given = c.in-Some-Some in
    let words = c.in_ok-books_words-in-Some-Some in
    rw (given.is-0, given.is-1)
    (tells (AreBooksWords (Some given.text.now) given.fault) c.args.name.now words.field-0 c.line_of.result (words.ensures.place, words.ensures.said)
    c.line_of.ensures)
