-- The events so far, followed by those from here on, are the events.
use Rattle.std.proofs.Common.{◌≡◌, ◌+◌, ◌++◌, drop}
use Rattle.rx_explain.specs.Traces.{events_of}
use Rattle.rx_explain.proofs.events.events_of.Given as goal

abbrev pub invariant-loop-before : goal.invariant-loop-before
invariant-loop-before l =
    l.events.items ++ events_of (l.before + 1) (drop l.before l.transmissions) (drop l.before l.replies)
    ≡ events_of 1 l.transmissions l.replies
