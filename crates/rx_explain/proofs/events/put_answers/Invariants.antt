-- The events so far, followed by those from here on, are the events.
use Rattle.std.proofs.Common.{◌≡◌, ◌+◌, ◌++◌, drop}
use Rattle.rx_explain.specs.Listed.{of_answers}
use Rattle.rx_explain.specs.Traces.{event_of}
use Rattle.rx_explain.proofs.events.put_answers.Given as goal

abbrev pub invariant-loop-before : goal.invariant-loop-before
invariant-loop-before l =
    l.events.items ++ of_answers event_of l.place l.heard (l.before + 1) (drop l.before l.answers)
    ≡ l.fn.events.items ++ of_answers event_of l.place l.heard 1 l.answers
