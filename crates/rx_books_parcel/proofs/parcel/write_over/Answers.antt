use Rattle.std.proofs.Common.{◌∙◌}
use Rattle.rx_fields.specs.Order.{key_cmp}
use Rattle.rx_sorted.specs.Ascending.{IsAt}
use Rattle.rx_sorted.proofs.Places.{set-at}
use Rattle.rx_ledger.proofs.Orders.{key_total}
use Rattle.rx_sorted.specs.Few.{items_of}
use Rattle.rx_books_parcel.specs.Parcels.{key_of}
use Rattle.rx_sorted.proofs.FewItems.{items_with}
use Rattle.rx_books_parcel.proofs.parcel.write_over.Goals as goal

pub held_place-at-requires-clause-rise : goal.held_place-at-requires-clause-rise
held_place-at-requires-clause-rise c = rw c.as_slice.ensures c.requires.rise

pub returns : goal.returns
returns c =
    let keys = c.args.keys.now in
    let is_at : IsAt key_cmp key_of (items_of keys) c.args.book.key c.held_place-at.result =
    rw c.as_slice.ensures at c.held_place-at.ensures in
    items_with keys c.held_place-at.result c.args.book is_at.in_range
    ∙ set-at key_cmp key_total key_of (items_of keys) c.args.book c.held_place-at.result c.requires.rise is_at
