use Rattle.std.proofs.Common.{ap, codes, rules}
use Rattle.rx_explain_text.specs.Json.{bill_json, number_member, text_member}
use Rattle.rx_fields.specs.Digits.{digits_text}
use Rattle.rx_print.proofs.Written.{as_text, six}
use Rattle.rx_explain_text.proofs.json.put_bill.Goals as goal

pub returns : goal.returns
unfolding bill_json
returns c =
    six c.args.page.now c.put_number.new.page c.put_text.new.page c.put_text-2.new.page c.put_text-3.new.page c.put_number-2.new.page
    c.put_number-3.new.page
    (number_member (codes "rx") c.args.parts.now.reference)
    (text_member (codes "family") c.args.parts.now.family)
    (text_member (codes "person") c.args.parts.now.person)
    (text_member (codes "product") (digits_text 11 c.args.parts.now.product))
    (number_member (codes "quantity_thousandths") c.args.parts.now.quantity)
    (number_member (codes "days") c.args.parts.now.days)
    (as_text c.args.page.now c.put_number.new.page (ap (number_member (codes "rx")) (search rules)) c.put_number.ensures)
    (as_text c.put_number.new.page c.put_text.new.page (ap (text_member (codes "family")) (search rules)) c.put_text.ensures)
    (as_text c.put_text.new.page c.put_text-2.new.page (ap (text_member (codes "person")) (search rules)) c.put_text-2.ensures)
    (as_text c.put_text-2.new.page c.put_text-3.new.page (ap (text_member (codes "product")) (search rules)) c.put_text-3.ensures)
    (as_text c.put_text-3.new.page c.put_number-2.new.page (ap (number_member (codes "quantity_thousandths")) (search rules))
    c.put_number-2.ensures)
    (as_text c.put_number-2.new.page c.put_number-3.new.page (ap (number_member (codes "days")) (search rules)) c.put_number-3.ensures)
