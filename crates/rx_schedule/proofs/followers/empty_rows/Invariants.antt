-- Each row so far is empty.
use Rattle.std.proofs.Common.{◌≡◌, [], map, replicate}
use Rattle.rx_schedule.proofs.followers.empty_rows.Given as goal

abbrev pub invariant-rows : goal.invariant-rows
invariant-rows l = map (λ v. v.items) l.rows.items ≡ replicate l.counter []
