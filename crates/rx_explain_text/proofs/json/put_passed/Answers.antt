use Rattle.std.proofs.Common.{ap, codes, rules}
use Rattle.rx_explain_text.specs.Json.{number_member, open_json, passed_json}
use Rattle.rx_explain_text.specs.Reasons.{days_between}
use Rattle.rx_print.proofs.Written.{as_text, three}
use Rattle.rx_explain_text.proofs.json.put_passed.Goals as goal

pub returns : goal.returns
unfolding passed_json
returns c =
    three c.args.page.now c.put_number.new.page c.put_number-2.new.page c.put_open.new.page
    (number_member (codes "days_passed") (days_between c.args.explanation.now.date c.args.earlier.now.row.key.date))
    (number_member (codes "refill_percent") c.args.figures.now.refill_percent)
    (open_json c.args.explanation.now.open_from)
    (as_text c.args.page.now c.put_number.new.page (ap (number_member (codes "days_passed")) (search rules)) c.put_number.ensures)
    (as_text c.put_number.new.page c.put_number-2.new.page (ap (number_member (codes "refill_percent")) (search rules))
    c.put_number-2.ensures)
    c.put_open.ensures
