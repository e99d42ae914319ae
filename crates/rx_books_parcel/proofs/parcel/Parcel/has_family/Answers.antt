use Rattle.std.proofs.Common.{sym, ap, ◌∙◌}
use Rattle.rx_fields.specs.Order.{id_cmp}
use Rattle.rx_sorted.specs.Ascending.{contains_key}
use Rattle.rx_sorted.proofs.Places.{contains_key-searched}
use Rattle.rx_ledger.proofs.Orders.{id_total}
use Rattle.rx_books_family.specs.FamilyBook.{family_of}
use Rattle.rx_books_parcel.proofs.Held.{family_held}
use Rattle.rx_books_parcel.proofs.parcel.Parcel.has_family.Goals as goal

pub place_of-requires : goal.place_of-requires
place_of-requires c = rw c.families.ensures.value c.families.ensures.within.families_rise

pub returns : goal.returns
returns c =
    let found = contains_key-searched id_cmp id_total family_of c.families.result.now c.args.family.now c.place_of.result
    c.place_of.ensures.found c.place_of.ensures.absent in
    c.is_ok.ensures.value ∙ found
    ∙ ap (λ fs. contains_key id_cmp family_of fs c.args.family.now) c.families.ensures.value
    ∙ sym (family_held c.args.self.now c.args.family.now)
