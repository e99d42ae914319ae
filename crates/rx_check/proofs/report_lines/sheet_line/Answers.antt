use Rattle.std.proofs.Common.{Some}
use Rattle.rx_check.specs.Wording.{AreSheetWords}
use Rattle.rx_check.proofs.Reports.{tells}
use Rattle.rx_check.proofs.report_lines.sheet_line.Goals as goal

pub returns-in_ok-sheet_words-in-Some : goal.returns-in_ok-sheet_words-in-Some
returns-in_ok-sheet_words-in-Some c =
    let words = c.in_ok-sheet_words-in-Some in
    rw c.in-Some.is
    (tells (AreSheetWords (Some c.args.text.now) c.in-Some.fault) c.args.name.now words.field-0 c.line_of.result words.ensures.said
    c.line_of.ensures)
