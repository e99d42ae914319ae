use Rattle.std.proofs.Common.{codes}
use Rattle.std.specs.Fmt.{decimal}
use Rattle.rx_print.proofs.Written.{five}
use Rattle.rx_report_text.proofs.summary.put_part.Goals as goal

pub returns : goal.returns
returns c =
    five c.args.page.now c.markup.new.self c.markup-2.new.self c.markup-3.new.self c.number.new.self c.markup-4.new.self
    (codes "<span class=\"")
    c.args.class.now
    (codes "\" style=\"flex-grow:")
    (decimal c.args.count)
    (codes "\"></span>")
    c.markup.ensures
    c.markup-2.ensures
    c.markup-3.ensures
    c.number.ensures
    c.markup-4.ensures
