use Rattle.std.proofs.Common.{sym, ap, ◌∙◌}
use Rattle.rx_fields.specs.Order.{key_cmp}
use Rattle.rx_sorted.specs.Ascending.{contains_key}
use Rattle.rx_sorted.proofs.Places.{contains_key-searched}
use Rattle.rx_ledger.proofs.Orders.{key_total}
use Rattle.rx_books_parcel.specs.Parcels.{key_of}
use Rattle.rx_books_parcel.proofs.Held.{key_held}
use Rattle.rx_books_parcel.proofs.parcel.Parcel.has_key.Goals as goal

pub place_of-requires : goal.place_of-requires
place_of-requires c = rw c.keys.ensures.value c.keys.ensures.within.keys_rise

pub returns : goal.returns
returns c =
    let found = contains_key-searched key_cmp key_total key_of c.keys.result.now c.args.key.now c.place_of.result
    c.place_of.ensures.found c.place_of.ensures.absent in
    c.is_ok.ensures.value ∙ found
    ∙ ap (λ ks. contains_key key_cmp key_of ks c.args.key.now) c.keys.ensures.value
    ∙ sym (key_held c.args.self.now c.args.key.now)
