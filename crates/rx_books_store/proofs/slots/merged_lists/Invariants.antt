use Rattle.std.proofs.Common.{◌≡◌, ◌≤◌, ◌++◌, ◌+◌, ◌-◌, length, drop}
use Rattle.rx_fields.specs.Order.{key_cmp}
use Rattle.rx_sorted.specs.Ascending.{put_all}
use Rattle.rx_books_store.specs.Store.{slot_key}
use Rattle.rx_books_store.proofs.slots.merged_lists.Given as goal

abbrev pub invariant-slots : goal.invariant-slots
invariant-slots l = record {
  low : l.low ≤ length l.under;
  high : l.high ≤ length l.over;
  rest : l.slots.items ++ put_all key_cmp slot_key (drop l.low l.under) (drop l.high l.over) ≡ put_all key_cmp slot_key l.under l.over;
}

abbrev pub decreases-slots : goal.decreases-slots
decreases-slots l = (length l.under + length l.over) - (l.low + l.high)
