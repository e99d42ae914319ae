-- The amount without the claims so far.
use Rattle.std.proofs.Common.{◌≡◌, take}
use Rattle.std.specs.List.{fold}
use Rattle.rx_explain_text.specs.Counted.{less}
use Rattle.rx_explain_text.proofs.counted.rest_of.Given as goal

abbrev pub invariant-loop-entry : goal.invariant-loop-entry
invariant-loop-entry l = l.rest ≡ fold less l.used (take l.entry-index l.listed)
