use Rattle.std.proofs.Common.{ap, codes, rules}
use Rattle.rx_d0_values.specs.Priced.{patient_pay, total_paid}
use Rattle.rx_explain_text.specs.Json.{amounts_json, number_member}
use Rattle.rx_print.proofs.Written.{as_text, seven}
use Rattle.rx_explain_text.proofs.json.put_pricing.Goals as goal

pub returns : goal.returns
unfolding amounts_json
returns c =
    seven c.args.page.now c.put_number.new.page c.put_number-2.new.page c.put_number-3.new.page c.put_number-4.new.page
    c.put_number-5.new.page c.put_number-6.new.page c.put_number-7.new.page
    (number_member (codes "ingredient_cost") c.args.pricing.now.ingredient_cost)
    (number_member (codes "dispensing_fee") c.args.pricing.now.dispensing_fee)
    (number_member (codes "deductible") c.args.pricing.now.deductible)
    (number_member (codes "copay") c.args.pricing.now.copay)
    (number_member (codes "coinsurance") c.args.pricing.now.coinsurance)
    (number_member (codes "patient_pay") (patient_pay c.args.pricing.now))
    (number_member (codes "total_paid") (total_paid c.args.pricing.now))
    (as_text c.args.page.now c.put_number.new.page (ap (number_member (codes "ingredient_cost")) (search rules)) c.put_number.ensures)
    (as_text c.put_number.new.page c.put_number-2.new.page (ap (number_member (codes "dispensing_fee")) (search rules))
    c.put_number-2.ensures)
    (as_text c.put_number-2.new.page c.put_number-3.new.page (ap (number_member (codes "deductible")) (search rules))
    c.put_number-3.ensures)
    (as_text c.put_number-3.new.page c.put_number-4.new.page (ap (number_member (codes "copay")) (search rules))
    c.put_number-4.ensures)
    (as_text c.put_number-4.new.page c.put_number-5.new.page (ap (number_member (codes "coinsurance")) (search rules))
    c.put_number-5.ensures)
    (as_text c.put_number-5.new.page c.put_number-6.new.page (ap (number_member (codes "patient_pay")) (search rules))
    c.put_number-6.ensures)
    (as_text c.put_number-6.new.page c.put_number-7.new.page (ap (number_member (codes "total_paid")) (search rules))
    c.put_number-7.ensures)
