use Rattle.std.proofs.Common.{codes}
use Rattle.rx_report_text.specs.declared.style.TheConstants.{STYLE}
use Rattle.rx_report_text.specs.Whole.{lot_text}
use Rattle.rx_print.proofs.Written.{five}
use Rattle.rx_report_text.proofs.whole.put_style.Goals as goal

pub returns : goal.returns
returns c =
    five c.args.page.now c.markup.new.self c.markup-2.new.self c.markup-3.new.self c.put_lot.new.page c.markup-4.new.self
    (codes "<style>\n")
    STYLE.now
    (codes "@page{@top-left{content:'")
    (lot_text c.args.lot)
    (codes "'}}\n</style>\n")
    c.markup.ensures
    c.markup-2.ensures
    c.markup-3.ensures
    c.put_lot.ensures
    c.markup-4.ensures
