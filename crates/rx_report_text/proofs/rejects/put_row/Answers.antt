use Rattle.std.proofs.Common.{codes, length}
use Rattle.std.specs.Fmt.{decimal}
use Rattle.rx_report_text.specs.Rejects.{code_cells, links_text, reject_row}
use Rattle.rx_print.proofs.Written.{five}
use Rattle.rx_report_text.proofs.rejects.put_row.Goals as goal

pub returns : goal.returns
unfolding reject_row
returns c =
    five c.args.page.now c.put_code_cells.new.page c.number.new.self c.markup.new.self c.put_links.new.page c.markup-2.new.self
    (code_cells c.args.code)
    (decimal (length c.args.lines.now))
    (codes "</td><td>")
    (links_text c.args.unfolds c.args.lines.now)
    (codes "</td></tr>\n")
    c.put_code_cells.ensures
    c.number.ensures
    c.markup.ensures
    c.put_links.ensures
    c.markup-2.ensures
