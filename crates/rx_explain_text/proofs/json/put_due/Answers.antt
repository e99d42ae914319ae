use Rattle.std.proofs.Common.{ap, codes, rules}
use Rattle.std.specs.Option.{option_copied}
use Rattle.rx_explain_text.specs.Json.{due_json, number_member, share_json, tier_json}
use Rattle.rx_print.proofs.Written.{as_text, four}
use Rattle.rx_explain_text.proofs.json.put_due.Goals as goal

pub returns : goal.returns
unfolding due_json
returns c =
    four c.args.page.now c.put_number.new.page c.put_number-2.new.page c.put_tier.new.page c.put_share.new.page
    (number_member (codes "deductible_due") c.args.workings.now.under)
    (number_member (codes "share_due") c.args.workings.now.share)
    (tier_json (option_copied c.args.tier))
    (share_json c.args.workings.now.payment.drug.share)
    (as_text c.args.page.now c.put_number.new.page (ap (number_member (codes "deductible_due")) (search rules)) c.put_number.ensures)
    (as_text c.put_number.new.page c.put_number-2.new.page (ap (number_member (codes "share_due")) (search rules))
    c.put_number-2.ensures)
    c.put_tier.ensures
    c.put_share.ensures
