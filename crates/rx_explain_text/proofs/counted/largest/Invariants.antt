-- The largest of the claims so far.
use Rattle.std.proofs.Common.{◌≡◌, take}
use Rattle.rx_explain_text.specs.Counted.{by_size}
use Rattle.rx_explain_text.specs.declared.counted.TheConstants.{MOST_LISTED}
use Rattle.rx_explain_text.proofs.counted.largest.Given as goal

abbrev pub invariant-loop-traced : goal.invariant-loop-traced
invariant-loop-traced l = l.listed.items ≡ take MOST_LISTED (by_size l.counts l.bill (take l.traced-index l.counted))
