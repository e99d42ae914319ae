use Rattle.std.proofs.Common.{codes}
use Rattle.rx_print.specs.Escape.{escaped}
use Rattle.rx_print.specs.declared.style.Style.TheVariants.{Html}
use Rattle.rx_print.proofs.Written.{four}
use Rattle.rx_report_text.proofs.whole.put_command.Goals as goal

pub returns : goal.returns
returns c =
    four c.args.page.now c.markup.new.self c.markup-2.new.self c.put_text.new.page c.markup-3.new.self
    (codes "<p>These are too many claims for one page. A page for each provider, and one that leads to them, are made by</p>\n")
    (codes "<pre>rxbatch report ")
    (escaped Html c.args.origin.now.options.now)
    (codes " --html-dir DIR</pre>\n")
    c.markup.ensures
    c.markup-2.ensures
    c.put_text.ensures
    c.markup-3.ensures
