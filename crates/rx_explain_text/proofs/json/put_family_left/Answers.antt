use Rattle.std.proofs.Common.{ap, codes, rules}
use Rattle.rx_explain_text.specs.Json.{family_left_json, number_member}
use Rattle.rx_print.proofs.Written.{as_text, three}
use Rattle.rx_explain_text.proofs.json.put_family_left.Goals as goal

pub returns : goal.returns
unfolding family_left_json
returns c =
    three c.args.page.now c.put_number.new.page c.put_total.new.page c.put_number-2.new.page
    (number_member (codes "family_deductible") c.args.figure)
    (number_member (codes "family_deductible_used") c.args.used)
    (number_member (codes "family_deductible_left") c.args.left)
    (as_text c.args.page.now c.put_number.new.page (ap (number_member (codes "family_deductible")) (search rules))
    c.put_number.ensures)
    (as_text c.put_number.new.page c.put_total.new.page (ap (number_member (codes "family_deductible_used")) (search rules))
    c.put_total.ensures)
    (as_text c.put_total.new.page c.put_number-2.new.page (ap (number_member (codes "family_deductible_left")) (search rules))
    c.put_number-2.ensures)
