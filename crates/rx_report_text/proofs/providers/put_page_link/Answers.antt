use Rattle.std.proofs.Common.{codes}
use Rattle.rx_report_text.specs.Layouts.{page_name}
use Rattle.rx_report_text.specs.Pages.{provider_text}
use Rattle.rx_report_text.specs.Providers.{page_link}
use Rattle.rx_print.proofs.Written.{five}
use Rattle.rx_report_text.proofs.providers.put_page_link.Goals as goal

pub returns : goal.returns
unfolding page_link
returns c =
    five c.args.page.now c.markup.new.self c.put_page_name.new.page c.markup-2.new.self c.put_provider_text.new.page
    c.markup-3.new.self
    (codes "<a href=\"")
    (page_name c.args.before)
    (codes "\">")
    (provider_text c.args.provider.now)
    (codes "</a>")
    c.markup.ensures
    c.put_page_name.ensures
    c.markup-2.ensures
    c.put_provider_text.ensures
    c.markup-3.ensures
