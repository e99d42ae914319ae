-- the list ascends, so a binary search finds what is there
use Rattle.std.proofs.Common.{rules, ap, ◌∙◌}
use Rattle.std.proofs.lemmas.List.Sorted.{answers_always}
use Rattle.rx_fields.specs.Order.{key_cmp}
use Rattle.rx_sorted.specs.Ascending.{IsAscending, contains_key, itself}
use Rattle.rx_sorted.proofs.Places.{contains_key-searched, searched}
use Rattle.rx_ledger.proofs.Orders.{key_total}
use Rattle.rx_books_parcel.proofs.footprint.Footprint.has_key.Goals as goal

pub returns : goal.returns
returns c =
    let facts = c.binary_search_by_key.ensures in
    let by_key = facts.position itself (answers_always _ _ _ (λ f a r h called. search rules)) in
    let xs = c.keys.result.now in
    let rise : IsAscending key_cmp itself xs = rw c.keys.ensures.value c.keys.ensures.within.keys_rise in
    let ends = searched key_cmp key_total itself xs c.args.key.now c.binary_search_by_key.result rise facts.bound by_key in
    c.is_ok.ensures.value
    ∙ contains_key-searched key_cmp key_total itself xs c.args.key.now c.binary_search_by_key.result ends.0 ends.1
    ∙ ap (λ ks. contains_key key_cmp itself ks c.args.key.now) c.keys.ensures.value
