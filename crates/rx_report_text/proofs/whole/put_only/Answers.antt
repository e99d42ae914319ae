use Rattle.std.proofs.Common.{codes}
use Rattle.rx_print.specs.Escape.{escaped}
use Rattle.rx_print.specs.declared.style.Style.TheVariants.{Html}
use Rattle.rx_print.proofs.Written.{two}
use Rattle.rx_report_text.proofs.whole.put_only.Goals as goal

pub returns : goal.returns
returns c =
    two c.args.page.now c.markup.new.self c.escaped.new.self
    (codes ", only provider ")
    (escaped Html c.args.id.now)
    c.markup.ensures
    c.escaped.ensures
