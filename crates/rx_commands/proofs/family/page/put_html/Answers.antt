use Rattle.rx_commands.specs.FamilyPage.{claims_table, front_text, header_text, html_text, sums_table}
use Rattle.rx_print.proofs.Written.{as_text, five}
use Rattle.std.proofs.Common.{ap, codes}
use Rattle.rx_commands.proofs.family.page.put_html.Goals as goal

pub returns : goal.returns
unfolding html_text
returns c =
    five c.args.page.now c.put_front.new.page c.put_header.new.page c.put_sums.new.page c.put_claims.new.page
    c.markup.new.self
    (front_text c.args.family.now.id)
    (header_text c.args.origin.now c.args.family.now)
    (sums_table c.args.family.now)
    (claims_table c.args.family.now.claims.items)
    (codes "</main>\n</body>\n</html>\n")
    c.put_front.ensures
    c.put_header.ensures
    c.put_sums.ensures
    (as_text c.put_sums.new.page c.put_claims.new.page (ap claims_table c.deref.ensures.value) c.put_claims.ensures)
    c.markup.ensures
