use Rattle.rx_commands.specs.FamilyTables.{left_json, reached_json, total_json}
use Rattle.rx_print.proofs.Written.{seven}
use Rattle.std.proofs.Common.{codes}
use Rattle.std.specs.Fmt.{decimal}
use Rattle.rx_commands.proofs.family.tables.put_total.Goals as goal

pub returns : goal.returns
unfolding total_json
returns c =
    seven c.args.page.now c.put.new.self c.number.new.self c.put-2.new.self c.put_left.new.page c.put-3.new.self
    c.put_reached.new.page c.put-4.new.self
    (codes "{\"sum\":")
    (decimal c.args.total.now.sum)
    (codes ",\"left\":")
    (left_json c.args.total.now.left)
    (codes ",\"reached\":")
    (reached_json c.args.total.now.reached)
    (codes "}")
    c.put.ensures
    c.number.ensures
    c.put-2.ensures
    c.put_left.ensures
    c.put-3.ensures
    c.put_reached.ensures
    c.put-4.ensures
