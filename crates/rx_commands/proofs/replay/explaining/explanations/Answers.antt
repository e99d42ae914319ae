-- What the batch changed, it changed by its own replies.
use Rattle.std.proofs.Common.{◌≡◌, ◌∙◌, List, ap, subst}
use Rattle.std.specs.Prelude.{IfOk}
use Rattle.std.specs.List.{AllZip}
use Rattle.rx_d0_values.specs.declared.transmission.Transmission.{Transmission}
use Rattle.rx_explain.specs.Explained.{IsAmong}
use Rattle.rx_explain.specs.Spots.{spot_at}
use Rattle.rx_explain.specs.Traces.{events_of}
use Rattle.rx_explain.specs.declared.events.Event.{Event}
use Rattle.rx_ledger.specs.Fold.{fold_replies}
use Rattle.rx_commands.proofs.replay.explaining.explanations.Goals as goal

pub returns : goal.returns
returns c =
    let b = c.args.batch.now in
    let ts = b.asked.items in
    let changed : c.in_ok-events.events ≡ events_of 1 ts (fold_replies b.lot b.sheet 1 ts b.opening.ledger) =
    c.in_ok-events.ensures ∙ ap (λ (xs : List Transmission). events_of 1 xs c.deref-2.result.now) c.deref.ensures.value
    ∙ ap (events_of 1 ts) c.deref-2.ensures.value ∙ ap (events_of 1 ts) c.requires.replies_are in
    subst (λ (events : List Event). IfOk c.explain_each.result (λ all.
    AllZip (λ at. IsAmong b.lot b.sheet ts b.opening.ledger events at (spot_at ts at)) c.args.places.now all.items)) changed
    (rw c.deref-3.ensures.value at c.explain_each.ensures)
