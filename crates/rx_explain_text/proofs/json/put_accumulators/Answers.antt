use Rattle.std.proofs.Common.{ap, codes, rules}
use Rattle.rx_explain_text.specs.Json.{accumulators_json, family_json, number_member}
use Rattle.rx_print.proofs.Written.{as_text, seven}
use Rattle.rx_explain_text.proofs.json.put_accumulators.Goals as goal

pub returns : goal.returns
unfolding accumulators_json
returns c =
    seven c.args.page.now c.put_number.new.page c.put_total.new.page c.put_number-2.new.page c.put_family.new.page
    c.put_number-3.new.page c.put_total-2.new.page c.put_number-4.new.page
    (number_member (codes "member_deductible") c.args.figures.now.member_deductible)
    (number_member (codes "member_deductible_used") c.args.workings.now.payment.used.deductible)
    (number_member (codes "deductible_left") c.args.workings.now.deductible_left)
    (family_json c.args.figures.now.family_deductible c.args.workings.now.family_deductible_left c.args.workings.now)
    (number_member (codes "family_maximum") c.args.figures.now.family_maximum)
    (number_member (codes "family_maximum_used") c.args.workings.now.payment.used.out_of_pocket)
    (number_member (codes "family_maximum_left") c.args.workings.now.room)
    (as_text c.args.page.now c.put_number.new.page (ap (number_member (codes "member_deductible")) (search rules))
    c.put_number.ensures)
    (as_text c.put_number.new.page c.put_total.new.page (ap (number_member (codes "member_deductible_used")) (search rules))
    c.put_total.ensures)
    (as_text c.put_total.new.page c.put_number-2.new.page (ap (number_member (codes "deductible_left")) (search rules))
    c.put_number-2.ensures)
    c.put_family.ensures
    (as_text c.put_family.new.page c.put_number-3.new.page (ap (number_member (codes "family_maximum")) (search rules))
    c.put_number-3.ensures)
    (as_text c.put_number-3.new.page c.put_total-2.new.page (ap (number_member (codes "family_maximum_used")) (search rules))
    c.put_total-2.ensures)
    (as_text c.put_total-2.new.page c.put_number-4.new.page (ap (number_member (codes "family_maximum_left")) (search rules))
    c.put_number-4.ensures)
