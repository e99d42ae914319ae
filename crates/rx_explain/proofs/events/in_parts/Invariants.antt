-- The events so far, in parts.
use Rattle.std.proofs.Common.{take}
use Rattle.rx_explain.specs.Parts.{AreEventParts}
use Rattle.rx_explain.proofs.events.in_parts.Given as goal

abbrev pub invariant-loop-event : goal.invariant-loop-event
invariant-loop-event l = AreEventParts l.parts.items (take l.event-index l.events)
