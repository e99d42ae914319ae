-- The rows of the lines so far.
use Rattle.std.proofs.Common.{map}
use Rattle.std.specs.List.{flat_map}
use Rattle.rx_print.specs.Page.{Writes}
use Rattle.rx_report_text.specs.Reasons.{line_row}
use Rattle.rx_report_text.proofs.reasons.put_rows.Given as goal

abbrev pub invariant-loop-line : goal.invariant-loop-line
invariant-loop-line l =
    Writes l.fn.page l.page (flat_map line_row (map (λ line. line.now) l.yielded))
