use Rattle.std.proofs.Common.{◌≡◌, take}
use Rattle.std.specs.List.{All}
use Rattle.rx_ledger.specs.Ledger.{row_under}
use Rattle.rx_books_store.specs.declared.slot.KeySlot.{KeySlot}
use Rattle.rx_books_store.specs.Store.{IsSlot, slot_keys}
use Rattle.rx_books_store.proofs.slots.fresh_slots.Given as goal

abbrev pub invariant-loop-key : goal.invariant-loop-key
invariant-loop-key l = record {
  keys : slot_keys l.slots.items ≡ take l.key-index l.keys;
  own : All (IsSlot l.opening.members) l.slots.items;
  there : All (λ (s : KeySlot). row_under l.opening s.key ≡ s.held) l.slots.items;
}
