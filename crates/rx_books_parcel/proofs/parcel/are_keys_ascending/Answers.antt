use Rattle.std.proofs.Common.{sym, ◌∙◌}
use Rattle.rx_fields.specs.Order.{key_cmp}
use Rattle.rx_sorted.proofs.Kept.{IsAscending-from_test, is_ascending-from_fact}
use Rattle.rx_ledger.proofs.Orders.{key_total}
use Rattle.rx_books_parcel.specs.Parcels.{key_of}
use Rattle.rx_books_parcel.proofs.parcel.are_keys_ascending.Goals as goal

pub returns : goal.returns
returns c =
    let told = c.is_ascending.ensures in (
      λ t. IsAscending-from_test key_cmp key_total key_of c.args.keys.now (sym told ∙ t),
      λ a. told ∙ is_ascending-from_fact key_cmp key_total key_of c.args.keys.now a,
    )
