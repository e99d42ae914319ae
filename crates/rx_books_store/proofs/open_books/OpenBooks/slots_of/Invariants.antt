-- The slots of the keys so far.
use Rattle.std.proofs.Common.{take}
use Rattle.std.specs.List.{AllZip}
use Rattle.rx_books_store.specs.OpenBooks.{IsSlotOf}
use Rattle.rx_books_store.proofs.open_books.OpenBooks.slots_of.Given as goal

abbrev pub invariant-loop-key : goal.invariant-loop-key
invariant-loop-key l = AllZip (IsSlotOf l.self) (take l.key-index l.keys) l.slots.items
