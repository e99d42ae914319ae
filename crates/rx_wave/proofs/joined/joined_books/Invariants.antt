-- What stands under the keys of the shards so far is what these left there, and all else is as in the opening.
use Rattle.std.proofs.Common.{◌≡◌, ℕ, ◌<◌, Some}
use Rattle.std.specs.List.{Contains, slice_get}
use Rattle.rx_fields.specs.declared.key.Key.{Key}
use Rattle.rx_ledger.specs.Ledger.{row_under}
use Rattle.rx_serial.specs.Named.{keys_named}
use Rattle.rx_wave.specs.declared.shard.Ended.{Ended}
use Rattle.rx_wave.proofs.joined.joined_books.Given as goal

abbrev pub invariant-loop-shard : goal.invariant-loop-shard
invariant-loop-shard l =
    let M = l.books.books.ledger in
    let L = l.job.books.now.ledger in
    record {
      period : l.books.books.period ≡ l.job.sheet.now.figures.period;
      slots : (key : Key) → Contains (keys_named l.job.transmissions.now) key → Contains l.books.slots key;
      members : M.members ≡ L.members;
      taken : (k : ℕ) (end : Ended) → k < l.shard → slice_get l.ended k ≡ Some end → (key : Key)
          → Contains end.keys.items key → row_under M key ≡ row_under end.books.books.ledger key;
      kept : (key : Key)
          → ((k : ℕ) (end : Ended) → k < l.shard → slice_get l.ended k ≡ Some end → ¬ Contains end.keys.items key)
          → row_under M key ≡ row_under L key;
    }
