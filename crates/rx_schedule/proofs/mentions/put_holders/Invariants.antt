-- The holders of the keys so far come after the others.
use Rattle.std.proofs.Common.{◌≡◌, ◌++◌, take}
use Rattle.rx_schedule.specs.Mentions.{holders_of}
use Rattle.rx_schedule.proofs.mentions.put_holders.Given as goal

abbrev pub invariant-reversals : goal.invariant-reversals
invariant-reversals l = l.mentions.items
    ≡ l.initial.mentions.items ++ holders_of l.books.ledger (take l.reversal-index l.reversed)
