use Rattle.std.proofs.Common.{ap, codes, rules}
use Rattle.rx_explain_text.specs.Json.{coverage_json, day_member}
use Rattle.rx_print.proofs.Written.{as_text, three}
use Rattle.rx_explain_text.proofs.json.put_coverage.Goals as goal

pub returns : goal.returns
unfolding coverage_json
returns c =
    three c.args.page.now c.put_day.new.page c.put_day-2.new.page c.put_day-3.new.page
    (day_member (codes "covered_first") c.args.coverage.now.first)
    (day_member (codes "covered_last") c.args.coverage.now.last)
    (day_member (codes "period_last") c.args.period.now.last)
    (as_text c.args.page.now c.put_day.new.page (ap (day_member (codes "covered_first")) (search rules)) c.put_day.ensures)
    (as_text c.put_day.new.page c.put_day-2.new.page (ap (day_member (codes "covered_last")) (search rules)) c.put_day-2.ensures)
    (as_text c.put_day-2.new.page c.put_day-3.new.page (ap (day_member (codes "period_last")) (search rules)) c.put_day-3.ensures)
