use Rattle.rx_books_text.specs.declared.line.Line.TheVariants as line
use Rattle.rx_books_scan.proofs.Begins.{begin_push}
use Rattle.rx_books_scan.proofs.run.totals_at.Goals as goal

pub loop-line-preserved : goal.loop-line-preserved
loop-line-preserved c =
    rw c.in-Ok.ensures.items (begin_push (λ t. line.Total t) c.args.version c.args.bytes.now c.loop-line.rest.now
    c.in-Some.behind.now c.loop-line.totals.items c.in-Some.line c.loop-line.invariant c.in-Some.ensures)
