use Rattle.rx_explain.proofs.Opened.{NoneBefore, days_left}
use Rattle.rx_fields.specs.Calendar.{day_number}
use Rattle.std.proofs.Common.{◌≤ℤ◌}
use Rattle.rx_explain.proofs.open_from.first_open.Given as goal

abbrev pub invariant-loop-next : goal.invariant-loop-next
invariant-loop-next l =
    (day_number l.fn.date ≤ℤ day_number l.day) × NoneBefore l.fn.figures l.fn.rows l.fn.bill l.fn.date l.day

abbrev pub decreases-loop-next : goal.decreases-loop-next
decreases-loop-next l = days_left l.day
