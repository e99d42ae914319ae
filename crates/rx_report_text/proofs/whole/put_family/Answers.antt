use Rattle.std.proofs.Common.{codes}
use Rattle.rx_print.specs.Escape.{escaped}
use Rattle.rx_print.specs.declared.style.Style.TheVariants.{Html}
use Rattle.rx_print.proofs.Written.{three}
use Rattle.rx_report_text.proofs.whole.put_family.Goals as goal

pub returns : goal.returns
returns c =
    three c.args.page.now c.markup.new.self c.escaped.new.self c.markup-2.new.self
    (codes ", the lines of family ")
    (escaped Html c.args.id.now)
    (codes "; counts and net are of these")
    c.markup.ensures
    c.escaped.ensures
    c.markup-2.ensures
