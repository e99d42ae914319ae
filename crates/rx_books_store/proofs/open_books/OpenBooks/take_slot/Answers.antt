use Rattle.std.specs.List.{Contains}
use Rattle.rx_fields.specs.Order.{key_cmp}
use Rattle.rx_sorted.specs.Ascending.{IsAt, IsGap}
use Rattle.rx_books_store.specs.Store.{slot_key, slot_keys}
use Rattle.rx_books_store.proofs.Stored.{get-slot_key, no-slot_key}
use Rattle.rx_books_store.proofs.open_books.OpenBooks.take_slot.Goals as goal

pub write_slot-requires-clause-slot : goal.write_slot-requires-clause-slot
write_slot-requires-clause-slot c =
    let slots = c.self.inside.changed in
    let at : IsAt key_cmp slot_key slots c.args.theirs.key c.in-Ok.slot =
    rw c.as_slice.ensures.value at c.in-Ok.ensures.found in
    rw (← c.self.view_is) (get-slot_key slots c.args.theirs.key c.in-Ok.slot at)

pub unreachable-requires : goal.unreachable-requires
unreachable-requires c =
    let slots = c.self.inside.changed in
    let gap : IsGap key_cmp slot_key slots c.args.theirs.key c.in-Err.field-0 =
    rw c.as_slice.ensures.value at c.in-Err.ensures.absent in
    let among : Contains (slot_keys slots) c.args.theirs.key = rw (← c.self.view_is) at c.requires.slot in
    no-slot_key slots c.args.theirs.key c.in-Err.field-0 gap among
