-- The transactions are those that are asked for, among what the batch changed by its own replies.
use Rattle.std.proofs.Common.{◌≡◌, ◌∙◌, List, ap, subst}
use Rattle.std.specs.Prelude.{IfOk}
use Rattle.std.specs.List.{AllZip}
use Rattle.rx_explain.specs.Explained.{IsAmong}
use Rattle.rx_explain.specs.Found.{found_in}
use Rattle.rx_explain.specs.Spots.{spot_at}
use Rattle.rx_explain.specs.Traces.{events_of}
use Rattle.rx_explain.specs.declared.at.At.{At}
use Rattle.rx_explain.specs.declared.events.Event.{Event}
use Rattle.rx_ledger.specs.Fold.{fold_replies}
use Rattle.rx_commands.proofs.retraced.explain_query.Goals as goal

pub returns : goal.returns
returns c =
    let lot = c.args.batch.now.lot in
    let plan = c.args.batch.now.sheet.now in
    let asked = c.args.batch.now.asked.now in
    let opening = c.args.batch.now.opening.now.ledger in
    let replies = c.args.replayed.now.replies.items in
    let places = found_in c.args.query.now 1 asked replies in
    let found : c.deref-4.result.now ≡ places =
    c.deref-4.ensures.value ∙ c.in_ok-found.ensures ∙ ap (found_in c.args.query.now 1 asked) c.deref.ensures.value in
    let changed : c.in_ok-events.events ≡ events_of 1 asked (fold_replies lot plan 1 asked opening) =
    c.in_ok-events.ensures ∙ ap (events_of 1 asked) (c.deref-2.ensures.value ∙ c.requires.replies) in
    subst (λ (events : List Event). IfOk c.explain_found.result
    (λ all. AllZip (λ at. IsAmong lot plan asked opening events at (spot_at asked at)) places all.items))
    changed
    (subst (λ (ats : List At). IfOk c.explain_found.result
    (λ all. AllZip (λ at. IsAmong lot plan asked opening c.in_ok-events.events at (spot_at asked at)) ats all.items))
    found c.explain_found.ensures)
