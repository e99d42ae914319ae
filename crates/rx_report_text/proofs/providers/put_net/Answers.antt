use Rattle.std.proofs.Common.{codes}
use Rattle.rx_print.specs.Money.{signed_dollars}
use Rattle.rx_print.proofs.Written.{three}
use Rattle.rx_settle.specs.Settlement.{net}
use Rattle.rx_report_text.proofs.providers.put_net.Goals as goal

pub returns : goal.returns
returns c =
    three c.args.page.now c.markup.new.self c.put_net_text.new.page c.markup-2.new.self
    (codes "<td class=\"net\">")
    (signed_dollars (net c.args.tally.now))
    (codes "</td>")
    c.markup.ensures
    c.put_net_text.ensures
    c.markup-2.ensures
