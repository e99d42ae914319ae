use Rattle.std.proofs.Common.{codes}
use Rattle.std.specs.List.{flat_map}
use Rattle.rx_print.proofs.Written.{as_text, five}
use Rattle.rx_report.specs.Cells.{name_of}
use Rattle.rx_report.specs.Texts.{tab_name}
use Rattle.rx_report.specs.declared.column.Column.TheVariants.{Place}
use Rattle.rx_commands.specs.ComparedText.{heading, keys, side, with_name}
use Rattle.rx_commands.proofs.comparing.table.put_heading.Goals as goal

pub returns : goal.returns
unfolding heading
returns c =
    five c.args.page.now c.put.new.self c.put_names.new.page c.put_names-2.new.page c.put_with_names.new.page c.put-2.new.self
    (name_of Place)
    (flat_map tab_name keys)
    (flat_map tab_name side)
    (flat_map with_name side)
    (codes "\tdifference\n")
    (as_text c.args.page.now c.put.new.self c.name.ensures c.put.ensures)
    c.put_names.ensures
    c.put_names-2.ensures
    c.put_with_names.ensures
    c.put-2.ensures
