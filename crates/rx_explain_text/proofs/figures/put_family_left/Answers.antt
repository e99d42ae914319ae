use Rattle.std.proofs.Common.{ap, codes, rules}
use Rattle.rx_explain_text.specs.Figures.{family_left_lines, labelled, left_lines}
use Rattle.rx_print.proofs.Written.{as_text, two}
use Rattle.rx_explain_text.proofs.figures.put_family_left.Goals as goal

pub returns : goal.returns
unfolding family_left_lines
returns c =
    let b = c.args.claims.now in
    two c.args.page.now c.line.new.page c.put_left.new.page
    (labelled (codes "family's deductible left") c.args.left)
    (left_lines b.listing c.args.figure c.args.used b.counts b.bill.now b.counted.now)
    (as_text c.args.page.now c.line.new.page (ap (labelled (codes "family's deductible left")) (search rules)) c.line.ensures)
    c.put_left.ensures
