-- The rows so far that count.
use Rattle.std.proofs.Common.{◌≡◌, filter, take}
use Rattle.rx_explain.specs.Shown.{is_counted}
use Rattle.rx_explain.proofs.facts.counted_rows.Given as goal

abbrev pub invariant-loop-row : goal.invariant-loop-row
invariant-loop-row l = l.counted.items ≡ filter (is_counted l.period l.family) (take l.row-index l.rows)
