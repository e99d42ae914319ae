use Rattle.std.proofs.Common.{codes}
use Rattle.rx_report_text.specs.declared.shown.Shown.TheVariants.{Record}
use Rattle.rx_report_text.specs.Pages.{cell_text}
use Rattle.rx_report_text.specs.Rejects.{claim_link}
use Rattle.rx_print.proofs.Written.{five}
use Rattle.rx_report_text.proofs.rejects.put_link.Goals as goal

pub returns : goal.returns
unfolding claim_link
returns c =
    five c.args.page.now c.markup.new.self c.put_cell.new.page c.markup-2.new.self c.put_cell-2.new.page c.markup-3.new.self
    (codes "<a href=\"#r")
    (cell_text Record c.args.line.now)
    (codes "\">")
    (cell_text Record c.args.line.now)
    (codes "</a> ")
    c.markup.ensures
    c.put_cell.ensures
    c.markup-2.ensures
    c.put_cell-2.ensures
    c.markup-3.ensures
