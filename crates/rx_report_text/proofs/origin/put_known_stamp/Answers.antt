use Rattle.std.proofs.Common.{codes, ap}
use Rattle.rx_print.specs.Escape.{escaped}
use Rattle.rx_print.specs.declared.style.Style.TheVariants.{Html}
use Rattle.rx_report_text.specs.Stamps.{stamp_words}
use Rattle.rx_print.proofs.Written.{as_text, three}
use Rattle.rx_report_text.proofs.origin.put_known_stamp.Goals as goal

pub returns : goal.returns
returns c =
    three c.args.page.now c.markup.new.self c.escaped.new.self c.markup-2.new.self
    (codes "<dt>Stamp</dt><dd>")
    (escaped Html (stamp_words c.args.stamp))
    (codes "</dd>\n")
    c.markup.ensures
    (as_text c.markup.new.self c.escaped.new.self (ap (escaped Html) c.stamp_words.ensures) c.escaped.ensures)
    c.markup-2.ensures
