use Rattle.std.proofs.Common.{codes}
use Rattle.rx_print.specs.Escape.{escaped}
use Rattle.rx_print.specs.declared.style.Style.TheVariants.{Html}
use Rattle.rx_report_text.specs.Origin.{plan_text}
use Rattle.rx_print.proofs.Written.{five}
use Rattle.rx_report_text.proofs.origin.put_plan.Goals as goal

pub returns : goal.returns
unfolding plan_text
returns c =
    five c.args.page.now c.markup.new.self c.escaped.new.self c.markup-2.new.self c.escaped-2.new.self c.markup-3.new.self
    (codes "<dl class=\"origin\">\n<dt>Plan</dt><dd>BIN ")
    (escaped Html c.args.door.now.bin)
    (codes ", PCN ")
    (escaped Html c.args.door.now.pcn)
    (codes "</dd>\n")
    c.markup.ensures
    c.escaped.ensures
    c.markup-2.ensures
    c.escaped-2.ensures
    c.markup-3.ensures
