use Rattle.std.proofs.Common.{ap, codes, ◌∙◌}
use Rattle.rx_print.specs.Dates.{dashed}
use Rattle.rx_print.specs.Escape.{escaped}
use Rattle.rx_print.specs.declared.style.Style.TheVariants.{Html}
use Rattle.rx_report_text.specs.Layouts.{has_claims}
use Rattle.rx_report_text.specs.Origin.{origin_text}
use Rattle.rx_report_text.specs.Whole.{header_text, lot_text, print_text, title_text, whose_text}
use Rattle.rx_print.proofs.Written.{as_text, eight}
use Rattle.rx_report_text.proofs.whole.put_title.Goals as goal

pub returns : goal.returns
unfolding title_text
returns c =
    let head = c.args.head.now in
    eight c.args.page.now c.markup.new.self c.put_lot.new.page c.markup-2.new.self c.put_day.new.page c.put_whose.new.page
    c.markup-3.new.self c.put_origin.new.page c.markup-4.new.self
    (header_text c.args.layout)
    (lot_text head.lot)
    (codes "</h1>\n<p>created ")
    (escaped Html (dashed head.lot.created))
    (whose_text c.args.layout c.args.portion)
    (codes "; amounts in dollars</p>\n")
    (origin_text head)
    (print_text (has_claims c.args.layout))
    (as_text c.args.page.now c.markup.new.self c.header_text.ensures c.markup.ensures)
    c.put_lot.ensures
    c.markup-2.ensures
    (as_text c.markup-2.new.self c.put_day.new.page (ap (λ day. escaped Html (dashed day)) c.created.ensures) c.put_day.ensures)
    c.put_whose.ensures
    c.markup-3.ensures
    c.put_origin.ensures
    (as_text c.put_origin.new.page c.markup-4.new.self (c.print_text.ensures ∙ ap print_text c.has_claims.ensures) c.markup-4.ensures)
