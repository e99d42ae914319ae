use Rattle.std.proofs.Common.{codes}
use Rattle.rx_commands.specs.FamilyColumns.{named_total, totals_text}
use Rattle.rx_print.proofs.Written.{two}
use Rattle.rx_commands.proofs.family.columns.put_totals.Goals as goal

pub returns : goal.returns
unfolding totals_text
returns c =
    two c.args.page.now c.put_named.new.page c.put_named-2.new.page
    (named_total (codes "Deductible of the family: ") c.args.family.now.deductible)
    (named_total (codes "Out of pocket of the family: ") c.args.family.now.out_of_pocket)
    c.put_named.ensures
    c.put_named-2.ensures
