-- The lines of the claims so far.
use Rattle.std.proofs.Common.{take}
use Rattle.std.specs.List.{flat_map}
use Rattle.rx_explain_text.specs.Counted.{entry_line}
use Rattle.rx_print.specs.Page.{Writes}
use Rattle.rx_explain_text.proofs.counted.put_entries.Given as goal

abbrev pub invariant-loop-entry : goal.invariant-loop-entry
invariant-loop-entry l =
    Writes l.fn.page l.page (flat_map entry_line (take l.entry-index l.listed))
