-- The records are those at the places.
use Rattle.std.proofs.Common.{◌≡◌, List, map, ap, subst, ◌∙◌}
use Rattle.std.specs.Prelude.{◌↔◌}
use Rattle.std.specs.List.{All, Contains}
use Rattle.std.proofs.lemmas.List.Elements.{All-map}
use Rattle.std.proofs.lemmas.Result.{IfOk-weaker}
use Rattle.rx_fields.specs.declared.key.Key.{Key}
use Rattle.rx_schedule.specs.Footprints.{record_at}
use Rattle.rx_schedule.specs.Shards.{keys_at}
use Rattle.rx_serial.specs.Named.{keys_named}
use Rattle.rx_serial.specs.Underway.{IsAwaited}
use Rattle.rx_wave.proofs.Keys.{keys_at_are}
use Rattle.rx_wave.proofs.Lists.{All-from_map}
use Rattle.rx_wave.proofs.shard.order_of.Goals as goal

pub returns-clause-period : goal.returns-clause-period
returns-clause-period c =
    IfOk-weaker c.of_records.result _ _ (λ order same. ap (λ b. b.period) (same ∙ c.in_ok-books.ensures) ∙ c.period.ensures)
    c.of_records.ensures.same

pub returns-clause-ledger : goal.returns-clause-ledger
returns-clause-ledger c =
    IfOk-weaker c.of_records.result _ _ (λ order same. ap (λ b. b.ledger) (same ∙ c.in_ok-books.ensures)) c.of_records.ensures.same

pub returns-clause-awaited : goal.returns-clause-awaited
returns-clause-awaited c =
    let records = c.args.job.now.transmissions.now in
    let places = c.args.places.now in
    IfOk-weaker c.of_records.result _ _ (λ order awaited.
    let given = rw c.deref.ensures.value at awaited in
    let all = All-map (IsAwaited order) (λ t. t.now) c.in_ok-records.records.items given in
    All-from_map (IsAwaited order) (record_at records) places (subst (All (IsAwaited order)) c.in_ok-records.ensures all))
    c.of_records.ensures.awaited

pub returns-clause-keys : goal.returns-clause-keys
returns-clause-keys c =
    let records = c.args.job.now.transmissions.now in
    let places = c.args.places.now in
    let named : keys_named (map (λ t. t.now) c.deref.result.now) ≡ keys_at records places =
    ap (λ rs. keys_named (map (λ t. t.now) rs)) c.deref.ensures.value ∙ ap keys_named c.in_ok-records.ensures
    ∙ keys_at_are records places in
    IfOk-weaker c.of_records.result _ _ (λ order are key.
    subst (λ (ks : List Key). Contains order.keys key ↔ Contains ks key) named (are key)) c.of_records.ensures.keys
