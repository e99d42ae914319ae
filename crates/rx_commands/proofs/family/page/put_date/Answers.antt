use Rattle.rx_print.specs.Dates.{dashed}
use Rattle.rx_print.proofs.Written.{three}
use Rattle.std.proofs.Common.{codes}
use Rattle.rx_commands.proofs.family.page.put_date.Goals as goal

pub returns : goal.returns
returns c =
    three c.args.page.now c.markup.new.self c.day.new.self c.markup-2.new.self
    (codes "<tr><th scope=\"row\">")
    (dashed c.args.day)
    (codes "</th>")
    c.markup.ensures
    c.day.ensures
    c.markup-2.ensures
