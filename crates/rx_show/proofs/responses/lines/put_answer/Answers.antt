use Rattle.std.proofs.Common.{codes, sym, ◌∷◌}
use Rattle.std.proofs.lemmas.Grind.{flat_map-append}
use Rattle.std.specs.List.{flat_map}
use Rattle.rx_print.proofs.Written.{as_text, two}
use Rattle.rx_show.specs.ReplyLines.{after_blank, approved_words, paid_words, refused_words, visit_words}
use Rattle.rx_show.proofs.responses.lines.put_answer.Goals as goal

pub returns-in-Paid : goal.returns-in-Paid
returns-in-Paid c =
    let front = codes "paid" ∷ visit_words c.args.echo.now in
    let rest = paid_words c.in-Paid.paid in
    rw c.in-Paid.is
    (as_text c.args.page.now c.put_paid.new.page (sym (flat_map-append after_blank front rest))
    (two c.args.page.now c.put_visit.new.page c.put_paid.new.page (flat_map after_blank front)
    (flat_map after_blank rest) c.put_visit.ensures c.put_paid.ensures))

pub returns-in-Twice : goal.returns-in-Twice
returns-in-Twice c =
    let front = codes "duplicate" ∷ visit_words c.args.echo.now in
    let rest = paid_words c.in-Twice.paid in
    rw c.in-Twice.is
    (as_text c.args.page.now c.put_paid-in-Twice.new.page (sym (flat_map-append after_blank front rest))
    (two c.args.page.now c.put_visit-in-Twice.new.page c.put_paid-in-Twice.new.page (flat_map after_blank front)
    (flat_map after_blank rest) c.put_visit-in-Twice.ensures c.put_paid-in-Twice.ensures))

pub returns-in-Approved : goal.returns-in-Approved
returns-in-Approved c =
    let front = codes "approved" ∷ visit_words c.args.echo.now in
    let rest = approved_words c.in-Approved.approved in
    rw c.in-Approved.is
    (as_text c.args.page.now c.put_approved.new.page (sym (flat_map-append after_blank front rest))
    (two c.args.page.now c.put_visit-in-Approved.new.page c.put_approved.new.page (flat_map after_blank front)
    (flat_map after_blank rest) c.put_visit-in-Approved.ensures c.put_approved.ensures))

pub returns-in-Refused : goal.returns-in-Refused
returns-in-Refused c =
    let front = codes "refused" ∷ visit_words c.args.echo.now in
    let rest = refused_words c.in-Refused.refused in
    rw c.in-Refused.is
    (as_text c.args.page.now c.put_refused.new.page (sym (flat_map-append after_blank front rest))
    (two c.args.page.now c.put_visit-in-Refused.new.page c.put_refused.new.page (flat_map after_blank front)
    (flat_map after_blank rest) c.put_visit-in-Refused.ensures c.put_refused.ensures))
