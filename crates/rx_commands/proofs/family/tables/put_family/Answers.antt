use Rattle.rx_commands.specs.FamilyTables.{claims_json, family_json, head_json, members_json, totals_json}
use Rattle.rx_print.proofs.Written.{as_text, eight}
use Rattle.std.proofs.Common.{ap, codes}
use Rattle.std.specs.List.{enumerate_from}
use Rattle.rx_commands.proofs.family.tables.put_family.Goals as goal

pub returns : goal.returns
unfolding family_json
returns c =
    eight c.args.page.now c.put_head.new.page c.put.new.self c.put_members.new.page c.put-2.new.self
    c.put_totals.new.page c.put-3.new.self c.put_claims.new.page c.put-4.new.self
    (head_json c.args.family.now)
    (codes ",\n\"members\":[")
    (members_json (enumerate_from 0 c.args.family.now.members.items))
    (codes "],\n")
    (totals_json c.args.family.now)
    (codes ",\n\"claims\":[")
    (claims_json (enumerate_from 0 c.args.family.now.claims.items))
    (codes "]}\n")
    c.put_head.ensures
    c.put.ensures
    (as_text c.put.new.self c.put_members.new.page
    (ap (λ ms. members_json (enumerate_from 0 ms)) c.deref.ensures.value) c.put_members.ensures)
    c.put-2.ensures
    c.put_totals.ensures
    c.put-3.ensures
    (as_text c.put-3.new.self c.put_claims.new.page
    (ap (λ cs. claims_json (enumerate_from 0 cs)) c.deref-2.ensures.value) c.put_claims.ensures)
    c.put-4.ensures
