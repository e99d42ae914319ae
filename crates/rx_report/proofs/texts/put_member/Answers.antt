use Rattle.std.proofs.Common.{◌∷◌, []}
use Rattle.rx_print.proofs.Written.{as_text, four}
use Rattle.rx_report.specs.Cells.{cell, name_of}
use Rattle.rx_report.specs.Texts.{json_value}
use Rattle.rx_report.proofs.texts.put_member.Goals as goal

pub returns : goal.returns
returns c =
    four c.args.page.now c.put.new.self c.put-2.new.self c.put-3.new.self c.put_json_cell.new.page
    (34 ∷ [])
    (name_of c.args.column)
    (34 ∷ 58 ∷ [])
    (json_value c.args.column (cell c.args.column c.args.line.now))
    c.put.ensures
    (as_text c.put.new.self c.put-2.new.self c.name.ensures c.put-2.ensures)
    c.put-3.ensures
    c.put_json_cell.ensures
