use Rattle.rx_print.proofs.Written.{as_text, three}
use Rattle.std.proofs.Common.{ap, codes, rules}
use Rattle.std.specs.Fmt.{decimal}
use Rattle.rx_commands.proofs.family.page.put_rx.Goals as goal

pub returns : goal.returns
returns c =
    three c.args.page.now c.markup.new.self c.number.new.self c.markup-2.new.self
    (codes "<td><i>Rx</i>")
    (decimal c.args.reference)
    (codes "</td>")
    c.markup.ensures
    (as_text c.markup.new.self c.number.new.self (ap decimal (search rules)) c.number.ensures)
    c.markup-2.ensures
