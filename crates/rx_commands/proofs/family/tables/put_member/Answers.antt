use Rattle.rx_commands.specs.FamilyTables.{comma_after, member_json, span_json, total_json}
use Rattle.rx_report.specs.Texts.{quoted}
use Rattle.rx_print.proofs.Written.{as_text, eight}
use Rattle.std.proofs.Common.{ap, codes}
use Rattle.rx_commands.proofs.family.tables.put_member.Goals as goal

pub returns : goal.returns
unfolding member_json
returns c =
    eight c.args.page.now c.put.new.self c.put-2.new.self c.put_quoted.new.page c.put-3.new.self c.put_span.new.page
    c.put-4.new.self c.put_total.new.page c.put-5.new.self
    (comma_after c.args.before)
    (codes "{\"person\":")
    (quoted c.args.shown.now.member.key.person)
    (codes ",")
    (span_json c.args.shown.now.member.coverage)
    (codes ",\"deductible\":")
    (total_json c.args.shown.now.deductible)
    (codes "}")
    (as_text c.args.page.now c.put.new.self c.comma_after.ensures c.put.ensures)
    c.put-2.ensures
    (as_text c.put-2.new.self c.put_quoted.new.page (ap quoted c.bytes.ensures.value) c.put_quoted.ensures)
    c.put-3.ensures
    c.put_span.ensures
    c.put-4.ensures
    c.put_total.ensures
    c.put-5.ensures
