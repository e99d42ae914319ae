use Rattle.rx_print.specs.Escape.{escaped}
use Rattle.rx_print.specs.declared.style.Style.TheVariants.{Html}
use Rattle.rx_print.proofs.Written.{three}
use Rattle.std.proofs.Common.{codes}
use Rattle.rx_commands.proofs.family.page.put_id.Goals as goal

pub returns : goal.returns
returns c =
    three c.args.page.now c.markup.new.self c.escaped.new.self c.markup-2.new.self
    c.args.front.now
    (escaped Html c.args.id.now)
    (codes "</td>")
    c.markup.ensures
    c.escaped.ensures
    c.markup-2.ensures
