-- What the members so far come to.
use Rattle.std.proofs.Common.{◌≡◌, take}
use Rattle.rx_ledger.specs.Ledger.{Ledger}
use Rattle.rx_books_upkeep.specs.Loading.{changes_of}
use Rattle.rx_books_upkeep.proofs.change.changes_of.Given as goal

abbrev pub invariant-loop-member : goal.invariant-loop-member
invariant-loop-member l = (L : Ledger) → L.members ≡ l.members → l.list.items ≡ changes_of L (take l.member-index l.table)
