-- The places so far, followed by those from here on, are the places.
use Rattle.std.proofs.Common.{◌≡◌, ◌+◌, ◌++◌, drop}
use Rattle.rx_explain.specs.Found.{found_in}
use Rattle.rx_explain.proofs.finding.find.Given as goal

abbrev pub invariant-loop-before : goal.invariant-loop-before
invariant-loop-before l =
    l.found.items ++ found_in l.query (l.before + 1) (drop l.before l.transmissions) (drop l.before l.replies)
    ≡ found_in l.query 1 l.transmissions l.replies
