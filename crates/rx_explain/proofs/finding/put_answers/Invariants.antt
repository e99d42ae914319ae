-- The places so far, followed by those from here on, are the places.
use Rattle.std.proofs.Common.{◌≡◌, ◌+◌, ◌++◌, drop}
use Rattle.rx_explain.specs.Found.{found_at}
use Rattle.rx_explain.specs.Listed.{of_answers}
use Rattle.rx_explain.proofs.finding.put_answers.Given as goal

abbrev pub invariant-loop-before : goal.invariant-loop-before
invariant-loop-before l =
    l.found.items ++ of_answers (found_at l.query) l.place l.heard (l.before + 1) (drop l.before l.answers)
    ≡ l.fn.found.items ++ of_answers (found_at l.query) l.place l.heard 1 l.answers
