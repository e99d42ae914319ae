use Rattle.rx_commands.specs.FamilyTables.{total_json, totals_json}
use Rattle.rx_print.proofs.Written.{four}
use Rattle.std.proofs.Common.{codes}
use Rattle.rx_commands.proofs.family.tables.put_totals.Goals as goal

pub returns : goal.returns
unfolding totals_json
returns c =
    four c.args.page.now c.put.new.self c.put_total.new.page c.put-2.new.self c.put_total-2.new.page
    (codes "\"family_deductible\":")
    (total_json c.args.family.now.deductible)
    (codes ",\n\"out_of_pocket\":")
    (total_json c.args.family.now.out_of_pocket)
    c.put.ensures
    c.put_total.ensures
    c.put-2.ensures
    c.put_total-2.ensures
