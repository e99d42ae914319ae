use Rattle.rx_print.proofs.Written.{six}
use Rattle.rx_report.specs.Texts.{claim_json}
use Rattle.rx_report.proofs.claims.put_claim.Goals as goal

pub returns : goal.returns
unfolding claim_json
returns c =
    six c.args.page.now c.put.new.self c.put_member.new.page c.put_members.new.page c.put-2.new.self c.put_batch.new.page
    c.put-3.new.self _ _ _ _ _ _
    c.put.ensures
    c.put_member.ensures
    c.put_members.ensures
    c.put-2.ensures
    c.put_batch.ensures
    c.put-3.ensures
