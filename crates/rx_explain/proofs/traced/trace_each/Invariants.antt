-- The rows so far, each traced.
use Rattle.std.proofs.Common.{◌≡◌, map, take}
use Rattle.rx_explain.specs.Traces.{traced}
use Rattle.rx_explain.proofs.traced.trace_each.Given as goal

abbrev pub invariant-loop-row : goal.invariant-loop-row
invariant-loop-row l = l.all.items ≡ map (traced l.events l.at) (take l.row-index l.rows)
