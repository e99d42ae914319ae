use Rattle.std.proofs.Common.{◌∙◌}
use Rattle.rx_fields.specs.Order.{id_cmp}
use Rattle.rx_ledger.proofs.Orders.{id_total}
use Rattle.rx_sorted.proofs.Places.{contains_key-searched}
use Rattle.rx_books_text.specs.Printed.{total_family}
use Rattle.rx_books_store.proofs.figures.has_total.Goals as goal

pub returns : goal.returns
returns c = c.is_ok.ensures.value ∙ contains_key-searched id_cmp id_total total_family c.args.totals.now c.args.family.now
    c.place_of.result c.place_of.ensures.found c.place_of.ensures.absent
