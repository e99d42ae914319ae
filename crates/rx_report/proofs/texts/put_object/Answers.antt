use Rattle.std.proofs.Common.{◌∷◌, []}
use Rattle.std.specs.List.{flat_map}
use Rattle.rx_print.proofs.Written.{four}
use Rattle.rx_report.specs.Cells.{others}
use Rattle.rx_report.specs.Texts.{comma_member, json_member, json_object}
use Rattle.rx_report.specs.declared.column.Column.TheVariants as column
use Rattle.rx_report.proofs.texts.put_object.Goals as goal

pub returns : goal.returns
unfolding json_object
returns c =
    four c.args.page.now c.put.new.self c.put_member.new.page c.put_members.new.page c.put-2.new.self
    (123 ∷ [])
    (json_member c.args.line.now column.Place)
    (flat_map (comma_member c.args.line.now) others)
    (125 ∷ [])
    c.put.ensures
    c.put_member.ensures
    c.put_members.ensures
    c.put-2.ensures
