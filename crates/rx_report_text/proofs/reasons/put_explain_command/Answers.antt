use Rattle.std.proofs.Common.{codes}
use Rattle.rx_report_text.specs.declared.shown.Shown.TheVariants.{Record}
use Rattle.rx_report_text.specs.Pages.{cell_text}
use Rattle.rx_print.proofs.Written.{three}
use Rattle.rx_report_text.proofs.reasons.put_explain_command.Goals as goal

pub returns : goal.returns
returns c =
    three c.args.page.now c.markup.new.self c.put_cell.new.page c.markup-2.new.self
    (codes "<p><code>rxbatch explain --sheet F --books F --batch F --record ")
    (cell_text Record c.args.line.now)
    (codes "</code></p>")
    c.markup.ensures
    c.put_cell.ensures
    c.markup-2.ensures
