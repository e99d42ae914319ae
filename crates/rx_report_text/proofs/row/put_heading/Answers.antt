use Rattle.std.proofs.Common.{codes}
use Rattle.rx_print.proofs.Written.{five}
use Rattle.rx_report_text.proofs.row.put_heading.Goals as goal

pub returns : goal.returns
returns c =
    five c.args.page.now c.markup.new.self c.markup-2.new.self c.markup-3.new.self c.markup-4.new.self c.markup-5.new.self
    (codes "<th scope=\"col\" class=\"")
    c.args.class.now
    (codes "\">")
    c.args.title.now
    (codes "</th>")
    c.markup.ensures
    c.markup-2.ensures
    c.markup-3.ensures
    c.markup-4.ensures
    c.markup-5.ensures
