-- The lines of the claims so far.
use Rattle.std.proofs.Common.{take}
use Rattle.rx_explain_text.specs.Counted.{counted_lines}
use Rattle.rx_print.specs.Page.{Writes}
use Rattle.rx_explain_text.proofs.counted.put_all.Given as goal

abbrev pub invariant-loop-traced : goal.invariant-loop-traced
invariant-loop-traced l =
    Writes l.fn.page l.page (counted_lines l.counts l.bill (take l.traced-index l.counted))
