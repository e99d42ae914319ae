use Rattle.rx_report_text.specs.Origin.{made_text, plan_text, files_text, stamp_text}
use Rattle.rx_print.proofs.Written.{four}
use Rattle.rx_report_text.proofs.origin.put_origin.Goals as goal

pub returns : goal.returns
returns c =
    four c.args.page.now c.put_plan.new.page c.put_stamp.new.page c.put_files.new.page c.put_made.new.page
    (plan_text c.args.head.now.door)
    (stamp_text c.args.head.now.stamp)
    (files_text c.args.head.now.origin)
    (made_text c.args.head.now.origin)
    c.put_plan.ensures
    c.put_stamp.ensures
    c.put_files.ensures
    c.put_made.ensures
