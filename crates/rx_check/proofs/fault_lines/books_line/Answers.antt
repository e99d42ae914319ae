use Rattle.std.specs.Prelude.{option_copied}
use Rattle.rx_check.specs.Wording.{AreBooksWords}
use Rattle.rx_check.proofs.Reports.{says}
use Rattle.rx_check.proofs.fault_lines.books_line.Goals as goal

pub returns-clause-said : goal.returns-clause-said
returns-clause-said c =
    says (AreBooksWords (option_copied c.args.input.now.text) c.args.fault) c.args.input.now.name.now c.in_ok-words.words
    c.line.result c.in_ok-words.ensures.said c.line.ensures.value
