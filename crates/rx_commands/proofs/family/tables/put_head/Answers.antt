use Rattle.rx_commands.specs.FamilyTables.{head_json, span_json}
use Rattle.rx_report.specs.Texts.{quoted}
use Rattle.rx_print.proofs.Written.{as_text, four}
use Rattle.std.proofs.Common.{ap, codes}
use Rattle.rx_commands.proofs.family.tables.put_head.Goals as goal

pub returns : goal.returns
unfolding head_json
returns c =
    four c.args.page.now c.put.new.self c.put_quoted.new.page c.put-2.new.self c.put_span.new.page
    (codes "{\"family\":")
    (quoted c.args.family.now.id)
    (codes ",")
    (span_json c.args.family.now.period)
    c.put.ensures
    (as_text c.put.new.self c.put_quoted.new.page (ap quoted c.bytes.ensures.value) c.put_quoted.ensures)
    c.put-2.ensures
    c.put_span.ensures
