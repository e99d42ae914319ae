use Rattle.std.proofs.Common.{codes}
use Rattle.std.specs.Fmt.{decimal}
use Rattle.rx_print.proofs.Written.{seven}
use Rattle.rx_report_text.proofs.summary.put_count.Goals as goal

pub returns : goal.returns
returns c =
    seven c.args.page.now c.markup.new.self c.markup-2.new.self c.markup-3.new.self c.number.new.self c.markup-4.new.self
    c.markup-5.new.self c.markup-6.new.self
    (codes "<span class=\"")
    c.args.name.now
    (codes "\"><b>")
    (decimal c.args.count)
    (codes "</b> ")
    c.args.name.now
    (codes "</span> ")
    c.markup.ensures
    c.markup-2.ensures
    c.markup-3.ensures
    c.number.ensures
    c.markup-4.ensures
    c.markup-5.ensures
    c.markup-6.ensures
