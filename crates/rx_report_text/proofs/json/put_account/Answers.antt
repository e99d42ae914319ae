use Rattle.std.proofs.Common.{ap, codes}
use Rattle.rx_print.proofs.Written.{as_text, five}
use Rattle.rx_report_text.specs.Json.{end_json, portion_json, sections_json}
use Rattle.rx_report_text.proofs.json.put_account.Goals as goal

pub returns : goal.returns
returns c =
    five c.args.page.now c.put.new.self c.put_portion.new.page c.put-2.new.self c.put_sections.new.page c.put_end.new.page
    (codes "{")
    (portion_json c.args.portion)
    (codes "\"sections\":[")
    (sections_json c.args.account.now.sections.items)
    (end_json c.args.lot c.args.stamp.now c.args.account.now.total)
    c.put.ensures
    c.put_portion.ensures
    c.put-2.ensures
    (as_text c.put-2.new.self c.put_sections.new.page (ap sections_json c.deref.ensures.value) c.put_sections.ensures)
    c.put_end.ensures
