-- each two neighbours are compared
use Rattle.std.proofs.Common.{rules}
use Rattle.std.specs.Ordering.{is_lt}
use Rattle.std.proofs.lemmas.List.Sorted.{answers_always}
use Rattle.rx_fields.specs.Order.{id_cmp}
use Rattle.rx_sorted.proofs.Kept.{is_ascending-neighbours}
use Rattle.rx_ledger.proofs.Orders.{id_total}
use Rattle.rx_sorted.specs.Ascending.{itself}
use Rattle.rx_books_parcel.proofs.footprint.are_families_ascending.Goals as goal

pub returns : goal.returns
returns c = is_ascending-neighbours id_cmp id_total itself c.args.families.now c.is_sorted_by.result
    (c.is_sorted_by.ensures.cases (λ x y. is_lt (id_cmp x y)) (answers_always _ _ _ (λ f a r h called. search rules)))
