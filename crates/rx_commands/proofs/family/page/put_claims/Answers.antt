use Rattle.rx_commands.specs.FamilyPage.{claim_row, claims_table}
use Rattle.rx_commands.specs.declared.family.page.TheConstants.{CLAIM_HEADINGS}
use Rattle.rx_print.proofs.Written.{three}
use Rattle.std.proofs.Common.{codes}
use Rattle.std.specs.List.{flat_map}
use Rattle.rx_commands.proofs.family.page.put_claims.Goals as goal

pub returns : goal.returns
unfolding claims_table
returns c =
    three c.args.page.now c.markup.new.self c.put_rows.new.page c.markup-2.new.self
    CLAIM_HEADINGS.now
    (flat_map claim_row c.args.claims.now)
    (codes "</tbody>\n</table>\n")
    c.markup.ensures
    c.put_rows.ensures
    c.markup-2.ensures
