-- the list ascends, so a binary search finds what is there
use Rattle.std.proofs.Common.{rules, ap, ◌∙◌}
use Rattle.std.proofs.lemmas.List.Sorted.{answers_always}
use Rattle.rx_fields.specs.Order.{id_cmp}
use Rattle.rx_sorted.specs.Ascending.{IsAscending, contains_key, itself}
use Rattle.rx_sorted.proofs.Places.{contains_key-searched, searched}
use Rattle.rx_ledger.proofs.Orders.{id_total}
use Rattle.rx_books_parcel.proofs.footprint.Footprint.has_family.Goals as goal

pub returns : goal.returns
returns c =
    let facts = c.binary_search_by_key.ensures in
    let by_key = facts.position itself (answers_always _ _ _ (λ f a r h called. search rules)) in
    let xs = c.families.result.now in
    let rise : IsAscending id_cmp itself xs = rw c.families.ensures.value c.families.ensures.within.families_rise in
    let ends = searched id_cmp id_total itself xs c.args.family.now c.binary_search_by_key.result rise facts.bound by_key in
    c.is_ok.ensures.value
    ∙ contains_key-searched id_cmp id_total itself xs c.args.family.now c.binary_search_by_key.result ends.0 ends.1
    ∙ ap (λ ks. contains_key id_cmp itself ks c.args.family.now) c.families.ensures.value
