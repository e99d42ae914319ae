use Rattle.std.proofs.Common.{codes}
use Rattle.rx_print.proofs.Written.{seven}
use Rattle.rx_report.specs.Texts.{lines_json}
use Rattle.rx_report_text.specs.Json.{provider_json, section_json, tally_json}
use Rattle.rx_report_text.proofs.json.put_section.Goals as goal

pub returns : goal.returns
unfolding section_json
returns c =
    let s = c.args.section.now in
    seven c.args.page.now c.put.new.self c.put_provider.new.page c.put-2.new.self c.put_tally.new.page c.put-3.new.self
    c.put_lines_json.new.page c.put-4.new.self
    (codes "{\"provider\":")
    (provider_json s.provider)
    (codes ",")
    (tally_json s.tally)
    (codes ",\"lines\":")
    (lines_json s.lines.now)
    (codes "}")
    c.put.ensures
    c.put_provider.ensures
    c.put-2.ensures
    c.put_tally.ensures
    c.put-3.ensures
    c.put_lines_json.ensures
    c.put-4.ensures
