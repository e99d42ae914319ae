use Rattle.std.proofs.Common.{◌∷◌, []}
use Rattle.std.specs.List.{flat_map}
use Rattle.rx_print.proofs.Written.{as_text, four}
use Rattle.rx_report.specs.Cells.{name_of, others}
use Rattle.rx_report.specs.Texts.{batch_names, tab_name}
use Rattle.rx_report.specs.declared.column.Column.TheVariants as column
use Rattle.rx_report.proofs.texts.put_heading.Goals as goal

pub returns : goal.returns
returns c =
    four c.args.page.now c.put.new.self c.put_names.new.page c.put_three.new.page c.put-2.new.self
    (name_of column.Place)
    (flat_map tab_name others)
    batch_names
    (10 ∷ [])
    (as_text c.args.page.now c.put.new.self c.name.ensures c.put.ensures)
    c.put_names.ensures
    c.put_three.ensures
    c.put-2.ensures
