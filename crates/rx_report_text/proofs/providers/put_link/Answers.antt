use Rattle.std.proofs.Common.{codes}
use Rattle.std.specs.Fmt.{decimal}
use Rattle.rx_report_text.specs.Pages.{provider_text}
use Rattle.rx_report_text.specs.Providers.{link_text}
use Rattle.rx_print.proofs.Written.{five}
use Rattle.rx_report_text.proofs.providers.put_link.Goals as goal

pub returns : goal.returns
unfolding link_text
returns c =
    five c.args.page.now c.markup.new.self c.number.new.self c.markup-2.new.self c.put_provider_text.new.page c.markup-3.new.self
    (codes "<a href=\"#p")
    (decimal c.args.before)
    (codes "\">")
    (provider_text c.args.provider.now)
    (codes "</a>")
    c.markup.ensures
    c.number.ensures
    c.markup-2.ensures
    c.put_provider_text.ensures
    c.markup-3.ensures
