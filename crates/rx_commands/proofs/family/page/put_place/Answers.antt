use Rattle.rx_commands.specs.FamilyPage.{date_cell, id_cell, place_cells, rx_cell}
use Rattle.rx_fields.specs.Digits.{digits_text}
use Rattle.rx_print.proofs.Written.{five}
use Rattle.std.proofs.Common.{codes}
use Rattle.rx_commands.proofs.family.page.put_place.Goals as goal

pub returns : goal.returns
unfolding place_cells
returns c =
    five c.args.page.now c.put_date.new.page c.put_person.new.page c.put_rx.new.page c.put_provider.new.page
    c.put_product.new.page
    (date_cell c.args.row.now.key.date)
    (id_cell (codes "<td><i>Person</i>") c.args.row.now.person)
    (rx_cell c.args.row.now.key.reference)
    (id_cell (codes "<td><i>Pharmacy</i>") c.args.row.now.key.provider)
    (id_cell (codes "<td><i>Product</i>") (digits_text 11 c.args.row.now.product))
    c.put_date.ensures
    c.put_person.ensures
    c.put_rx.ensures
    c.put_provider.ensures
    c.put_product.ensures
