use Rattle.std.proofs.Common.{Some, sym, ap, ◌∙◌}
use Rattle.rx_fields.specs.Order.{id_cmp}
use Rattle.rx_sorted.proofs.Places.{item_at-at, item_at-gap}
use Rattle.rx_ledger.proofs.Orders.{id_total}
use Rattle.rx_books_family.specs.FamilyBook.{family_of}
use Rattle.rx_books_parcel.proofs.parcel.Parcel.family.Goals as goal

pub place_of-requires : goal.place_of-requires
place_of-requires c = rw c.families.ensures.value c.families.ensures.within.families_rise

pub returns-in-Ok : goal.returns-in-Ok
returns-in-Ok c =
    let found = rw c.families.ensures.value at c.in-Ok.ensures.found in
    let read = rw c.families-in-Ok.ensures.value at c.index-families-at.is in
    ap Some read
    ∙ sym (item_at-at id_cmp id_total family_of c.args.self.now.families c.args.family.now c.in-Ok.at
    c.index-families-at.result c.families.ensures.within.families_rise found)

pub returns-in-Err : goal.returns-in-Err
returns-in-Err c =
    let gap = rw c.families.ensures.value at c.in-Err.ensures.absent in
    sym (item_at-gap id_cmp id_total family_of c.args.self.now.families c.args.family.now _ gap)
