-- The records are those of the batch.
use Rattle.std.proofs.Common.{subst}
use Rattle.std.specs.List.{All}
use Rattle.std.proofs.lemmas.List.Elements.{All-map}
use Rattle.std.proofs.lemmas.Result.{IfOk-weaker}
use Rattle.rx_serial.specs.Underway.{IsAwaited, Underway}
use Rattle.rx_serial.proofs.in_order.InOrder.new.Goals as goal

pub returns-clause-awaited : goal.returns-clause-awaited
returns-clause-awaited c =
    let records = c.in_ok-records.records.items in
    let each = rw c.deref.ensures.value at c.of_records.ensures.awaited in
    IfOk-weaker c.of_records.result (λ (o : Underway). All (λ t. IsAwaited o t.now) records)
    (λ o. All (IsAwaited o) c.args.transmissions.now)
    (λ o all. subst (All (IsAwaited o)) c.in_ok-records.ensures (All-map (IsAwaited o) (λ t. t.now) records all)) each
