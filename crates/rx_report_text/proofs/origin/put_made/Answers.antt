use Rattle.std.proofs.Common.{codes}
use Rattle.rx_report_text.specs.Origin.{made_text, term_text}
use Rattle.rx_print.proofs.Written.{three}
use Rattle.rx_report_text.proofs.origin.put_made.Goals as goal

pub returns : goal.returns
unfolding made_text
returns c =
    three c.args.page.now c.put_term.new.page c.put_term-2.new.page c.markup.new.self
    (term_text (codes "Program") c.args.origin.now.program.now)
    (term_text (codes "Made") c.args.origin.now.made.now)
    (codes "</dl>\n")
    c.put_term.ensures
    c.put_term-2.ensures
    c.markup.ensures
