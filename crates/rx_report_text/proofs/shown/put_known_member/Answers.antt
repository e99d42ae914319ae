use Rattle.std.proofs.Common.{◌∷◌, []}
use Rattle.rx_print.proofs.Written.{as_text, three}
use Rattle.rx_report_text.proofs.shown.put_known_member.Goals as goal

pub returns : goal.returns
returns c =
    three c.args.page.now c.put.new.self c.put-2.new.self c.put-3.new.self
    c.args.family.now
    (47 ∷ [])
    c.args.person.now
    (as_text c.args.page.now c.put.new.self c.bytes.ensures.value c.put.ensures)
    c.put-2.ensures
    (as_text c.put-2.new.self c.put-3.new.self c.bytes-2.ensures.value c.put-3.ensures)
