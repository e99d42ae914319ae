use Rattle.std.proofs.Common.{ap, codes, ◌∙◌}
use Rattle.rx_fields.specs.Digits.{digits_text}
use Rattle.rx_print.specs.Escape.{escaped}
use Rattle.rx_print.specs.declared.style.Style.TheVariants.{Html}
use Rattle.rx_print.proofs.Written.{as_text, two}
use Rattle.rx_report_text.proofs.whole.put_lot.Goals as goal

pub returns : goal.returns
returns c =
    let number = c.digits_write-number.ensures.text ∙ ap (digits_text 7) (c.from.ensures ∙ c.number.ensures.value) in
    two c.args.page.now c.markup.new.self c.escaped.new.self
    (codes "Batch ")
    (escaped Html (digits_text 7 c.args.lot.number))
    c.markup.ensures
    (as_text c.markup.new.self c.escaped.new.self (ap (escaped Html) number) c.escaped.ensures)
