-- The replies so far, followed by those from here on, are the replies; the ledger from here on is the ledger after; and
-- every record is one that is awaited.
use Rattle.std.proofs.Common.{◌≡◌, ◌++◌, drop}
use Rattle.std.specs.List.{All}
use Rattle.rx_schedule.specs.Footprints.{record_at}
use Rattle.rx_schedule.specs.Shards.{ledger_of, replies_of}
use Rattle.rx_serial.specs.Underway.{IsAwaited}
use Rattle.rx_wave.proofs.shard.replies_to.Given as goal

abbrev pub invariant-loop-place : goal.invariant-loop-place
invariant-loop-place g l =
    let lot = l.job.lot in
    let plan = l.job.sheet.now in
    let records = l.job.transmissions.now in
    let now = l.order.books.ledger in
    let before = l.initial.order.books.ledger in
    record {
      replies : l.replies.items ++ replies_of lot plan records (drop l.place-index l.places) now
          ≡ replies_of lot plan records l.places before;
      ledger : ledger_of lot plan records (drop l.place-index l.places) now ≡ ledger_of lot plan records l.places before;
      period : l.order.books.period ≡ plan.figures.period;
      keys : l.order.keys ≡ l.initial.order.keys;
      awaited : All (λ place. IsAwaited l.order (record_at records place)) l.places;
    }
