use Rattle.std.proofs.Common.{sym, ap, ◌∙◌}
use Rattle.rx_fields.specs.Order.{id_cmp, key_cmp}
use Rattle.rx_sorted.specs.Ascending.{is_ascending, itself}
use Rattle.rx_sorted.proofs.Kept.{IsAscending-from_test}
use Rattle.rx_ledger.proofs.Orders.{id_total, key_total}
use Rattle.rx_books_parcel.proofs.footprint.Footprint.new.Goals as goal

pub invariant_of-result : goal.invariant_of-result
invariant_of-result c = record {
  keys_rise = rw c.of-keys.ensures (IsAscending-from_test key_cmp key_total itself c.args.keys.items
      (ap (is_ascending key_cmp itself) (sym c.deref.ensures.value) ∙ sym c.are_keys_ascending.ensures
      ∙ c.if-are_keys_ascending.true));
  families_rise = rw c.of-families.ensures (IsAscending-from_test id_cmp id_total itself c.args.families.items
      (ap (is_ascending id_cmp itself) (sym c.deref-then-are_keys_ascending.ensures.value)
      ∙ sym c.are_families_ascending.ensures ∙ c.if-are_families_ascending.true));
}
