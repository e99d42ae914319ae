use Rattle.std.proofs.Common.{[], ◌∷◌, ap, codes}
use Rattle.rx_print.proofs.Written.{as_text, four}
use Rattle.rx_commands.specs.Verdict.{sized}
use Rattle.rx_commands.proofs.verdict.lines.put_same.Goals as goal

pub returns : goal.returns
returns c =
    let output = c.args.output.now in
    four c.args.page.now c.put_size.new.page c.put_size-2.new.page c.put_size-3.new.page c.put.new.self
    (sized (codes "same: response ") output.response.items)
    (sized (codes " bytes, books ") output.books.items)
    (sized (codes ", settlement ") output.settlement.items)
    (10 ∷ [])
    (as_text c.args.page.now c.put_size.new.page (ap (sized (codes "same: response ")) c.deref.ensures.value) c.put_size.ensures)
    (as_text c.put_size.new.page c.put_size-2.new.page (ap (sized (codes " bytes, books ")) c.deref-2.ensures.value)
    c.put_size-2.ensures)
    (as_text c.put_size-2.new.page c.put_size-3.new.page (ap (sized (codes ", settlement ")) c.deref-3.ensures.value)
    c.put_size-3.ensures)
    c.put.ensures
