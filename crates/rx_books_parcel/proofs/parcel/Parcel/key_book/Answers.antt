use Rattle.std.proofs.Common.{Some, sym, ap, ◌∙◌}
use Rattle.rx_fields.specs.Order.{key_cmp}
use Rattle.rx_sorted.proofs.Places.{item_at-at, item_at-gap}
use Rattle.rx_ledger.proofs.Orders.{key_total}
use Rattle.rx_books_parcel.specs.Parcels.{key_of}
use Rattle.rx_books_parcel.proofs.parcel.Parcel.key_book.Goals as goal

pub place_of-requires : goal.place_of-requires
place_of-requires c = rw c.keys.ensures.value c.keys.ensures.within.keys_rise

pub returns-in-Ok : goal.returns-in-Ok
returns-in-Ok c =
    let found = rw c.keys.ensures.value at c.in-Ok.ensures.found in
    let read = rw c.keys-in-Ok.ensures.value at c.index-keys-at.is in
    ap Some read
    ∙ sym (item_at-at key_cmp key_total key_of c.args.self.now.keys c.args.key.now c.in-Ok.at
    c.index-keys-at.result c.keys.ensures.within.keys_rise found)

pub returns-in-Err : goal.returns-in-Err
returns-in-Err c =
    let gap = rw c.keys.ensures.value at c.in-Err.ensures.absent in
    sym (item_at-gap key_cmp key_total key_of c.args.self.now.keys c.args.key.now _ gap)
