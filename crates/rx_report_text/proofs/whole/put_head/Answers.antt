use Rattle.std.proofs.Common.{codes}
use Rattle.rx_report_text.specs.declared.script.TheConstants.{POLICY}
use Rattle.rx_report_text.specs.Whole.{called_text, head_text, skip_text, style_text}
use Rattle.rx_print.proofs.Written.{as_text, eight}
use Rattle.rx_report_text.proofs.whole.put_head.Goals as goal

pub returns : goal.returns
unfolding head_text
returns c =
    eight c.args.page.now c.markup.new.self c.markup-2.new.self c.markup-3.new.self c.put_called.new.page c.markup-4.new.self
    c.put_style.new.page c.markup-5.new.self c.markup-6.new.self
    (codes "<!DOCTYPE html>\n<html lang=\"en\">\n<head>\n<meta charset=\"utf-8\">\n")
    POLICY.now
    (codes "<meta name=\"viewport\" content=\"width=device-width, initial-scale=1\">\n<title>")
    (called_text c.args.layout c.args.lot)
    (codes "</title>\n")
    (style_text c.args.lot)
    (codes "</head>\n<body>\n")
    (skip_text c.args.layout)
    c.markup.ensures
    c.markup-2.ensures
    c.markup-3.ensures
    c.put_called.ensures
    c.markup-4.ensures
    c.put_style.ensures
    c.markup-5.ensures
    (as_text c.markup-5.new.self c.markup-6.new.self c.skip_text.ensures c.markup-6.ensures)
