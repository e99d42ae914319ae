-- Where the lines are in order, so are the words under them; what the batch changed, it changed by its own replies.
use Rattle.std.proofs.Common.{◌≡◌, ◌∙◌, List, ap, subst, sym}
use Rattle.std.specs.List.{AllZip}
use Rattle.rx_d0_values.specs.declared.transmission.Transmission.{Transmission}
use Rattle.rx_explain.specs.Traces.{events_of}
use Rattle.rx_explain.specs.declared.events.Event.{Event}
use Rattle.rx_ledger.specs.Fold.{fold_replies}
use Rattle.rx_commands.specs.Tiers.{table_of}
use Rattle.rx_commands.specs.Whys.{AreWhys, IsWhyAmong}
use Rattle.rx_commands.proofs.Spots.{same_order, spots_of_whys}
use Rattle.rx_commands.proofs.whys.whys_of.Goals as goal

pub returns : goal.returns
returns c = λ rise.
    let b = c.args.batch.now in
    let ts = b.asked.items in
    let lines = c.args.lines.now in
    let whys = c.in_ok-whys.whys.items in
    let changed : c.in_ok-events.events ≡ events_of 1 ts (fold_replies b.lot b.sheet 1 ts b.opening.ledger) =
    c.in_ok-events.ensures ∙ ap (λ (xs : List Transmission). events_of 1 xs c.deref-2.result.now) c.deref.ensures.value
    ∙ ap (events_of 1 ts) c.deref-2.ensures.value ∙ ap (events_of 1 ts) c.requires.replies_are in
    let tiers = table_of c.args.tiers.now in
    let are : AreWhys tiers b lines whys =
    subst (λ (events : List Event).
    AllZip (IsWhyAmong b.lot b.sheet tiers ts b.opening.ledger b.details events) lines whys) changed c.in_ok-whys.ensures in
    let same = spots_of_whys tiers b lines whys are in
    subst (AreWhys tiers b lines) (sym (c.in_order.ensures (same_order whys lines same ∙ rise))) are
