use Rattle.rx_commands.specs.FamilyPage.{family_row, member_row, sums_table}
use Rattle.rx_commands.specs.declared.family.page.TheConstants.{SUM_HEADINGS}
use Rattle.rx_print.proofs.Written.{as_text, five}
use Rattle.std.proofs.Common.{ap, codes}
use Rattle.std.specs.List.{flat_map}
use Rattle.rx_commands.proofs.family.page.put_sums.Goals as goal

pub returns : goal.returns
unfolding sums_table
returns c =
    five c.args.page.now c.markup.new.self c.put_members.new.page c.put_family_row.new.page
    c.put_family_row-2.new.page c.markup-2.new.self
    SUM_HEADINGS.now
    (flat_map member_row c.args.family.now.members.items)
    (family_row (codes "Deductible of the family") c.args.family.now.deductible)
    (family_row (codes "Out of pocket of the family") c.args.family.now.out_of_pocket)
    (codes "</tbody>\n</table>\n")
    c.markup.ensures
    (as_text c.markup.new.self c.put_members.new.page (ap (flat_map member_row) c.deref.ensures.value) c.put_members.ensures)
    c.put_family_row.ensures
    c.put_family_row-2.ensures
    c.markup-2.ensures
