use Rattle.std.proofs.Common.{◌≡◌, ◌++◌, ◌+◌, drop, false}
use Rattle.rx_show.specs.PlanLines.{wave_lines}
use Rattle.rx_show.proofs.plan.put_waves.Given as goal

abbrev pub invariant-loop-before : goal.invariant-loop-before
invariant-loop-before l = l.page.lacks ≡ false
    → (l.fn.page.lacks ≡ false) × (l.page.bytes.items ++ wave_lines (l.before + 1) (drop l.before l.numbers)
    ≡ l.fn.page.bytes.items ++ wave_lines 1 l.numbers)
