use Rattle.std.proofs.Common.{ap, ◌∙◌}
use Rattle.rx_books_text.specs.LineReading.{line_of}
use Rattle.rx_books_text.proofs.HeadLaws.{line_found}
use Rattle.rx_books_text.proofs.LineLaws.{line_again}
use Rattle.rx_books_text.proofs.line.read_line.Goals as goal

pub returns-clause-found : goal.returns-clause-found
returns-clause-found c = line_found c.args.version c.args.text.now c.line_of.result c.line_of.ensures

pub returns-clause-only : goal.returns-clause-only
returns-clause-only c line is text =
    c.line_of.ensures ∙ ap (line_of c.args.version) text ∙ line_again c.args.version line is
