use Rattle.std.proofs.Common.{sym, ◌∙◌}
use Rattle.rx_fields.specs.Order.{id_cmp}
use Rattle.rx_sorted.proofs.Kept.{IsAscending-from_test, is_ascending-from_fact}
use Rattle.rx_ledger.proofs.Orders.{id_total}
use Rattle.rx_books_family.specs.FamilyBook.{family_of}
use Rattle.rx_books_parcel.proofs.parcel.are_ascending.Goals as goal

pub returns : goal.returns
returns c =
    let told = c.is_ascending.ensures in (
      λ t. IsAscending-from_test id_cmp id_total family_of c.args.families.now (sym told ∙ t),
      λ a. told ∙ is_ascending-from_fact id_cmp id_total family_of c.args.families.now a,
    )
