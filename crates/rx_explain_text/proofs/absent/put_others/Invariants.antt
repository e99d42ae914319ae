-- The places so far.
use Rattle.std.proofs.Common.{take}
use Rattle.std.specs.List.{flat_map}
use Rattle.rx_print.specs.Page.{Writes}
use Rattle.rx_explain_text.specs.Absent.{after_comma}
use Rattle.rx_explain_text.proofs.absent.put_others.Given as goal

abbrev pub invariant-loop-at : goal.invariant-loop-at
invariant-loop-at l = Writes l.fn.page l.page (flat_map after_comma (take l.at-index l.others))
