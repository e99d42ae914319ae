-- The families of the transactions so far.
use Rattle.std.proofs.Common.{◌≡◌, take}
use Rattle.std.specs.List.{flat_map}
use Rattle.rx_commands.specs.ExcerptParts.{families_of}
use Rattle.rx_commands.proofs.excerpts.named.families_of_all.Given as goal

abbrev pub invariant-transactions : goal.invariant-transactions
invariant-transactions l =
    l.families.items ≡ flat_map (families_of l.heard l.books.ledger) (take l.transaction-index l.transaction-items)
