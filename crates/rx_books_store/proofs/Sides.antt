-- One row of rows that ascend determines on which side of a key those before it, or after it, are.
use Rattle.std.proofs.Common.{◌≡◌, ℕ, ◌+◌, ◌<◌, ◌≤◌, true, List, length, get_or, Some, refl, ap, ◌∙◌, inl, inr, arith}
use Rattle.std.specs.Prelude.{slice_get}
use Rattle.std.specs.Ordering.{is_gt, is_lt}
use Rattle.std.specs.declared.cmp.Ordering.{Ordering}
use Rattle.std.specs.declared.cmp.Ordering.TheVariants.{Less, Equal, Greater}
use Rattle.std.proofs.lemmas.Bool.{cases_lt}
use Rattle.std.proofs.lemmas.Option.{get_or_from_slice_get}
use Rattle.rx_fields.specs.Order.{key_cmp}
use Rattle.rx_fields.specs.declared.key.Key.{Key}
use Rattle.rx_sorted.specs.Ascending.{IsAscending}
use Rattle.rx_sorted.proofs.Keys.{Greater-from_Less, Less-from_Greater, Less-from_is_lt}
use Rattle.rx_sorted.proofs.Kept.{IsAscending-at}
use Rattle.rx_ledger.specs.declared.row.Row.{Row}
use Rattle.rx_ledger.specs.Rows.{row_key}
use Rattle.rx_ledger.proofs.Orders.{key_total}

Greater-from_is_gt : (o : Ordering) → is_gt o ≡ true → o ≡ Greater
Greater-from_is_gt Less h = cc
Greater-from_is_gt Equal h = cc
Greater-from_is_gt Greater h = refl

-- a row that was read at a place
module _ (rows : List Row) (k : Key) (i : ℕ) (r : Row) (at : slice_get rows i ≡ Some r) where
  read : (d : Row) → key_cmp (row_key (get_or rows i d)) k ≡ key_cmp r.key k
  read d = ap (λ (x : Row). key_cmp x.key k) (get_or_from_slice_get rows i r d at)

  pub less_there : is_lt (key_cmp r.key k) ≡ true → (d : Row) → key_cmp (row_key (get_or rows i d)) k ≡ Less
  less_there less d = read d ∙ Less-from_is_lt _ less

  pub greater_there : is_gt (key_cmp r.key k) ≡ true → (d : Row) → key_cmp (row_key (get_or rows i d)) k ≡ Greater
  greater_there greater d = read d ∙ Greater-from_is_gt _ greater

-- what is known of a place
module _ (rows : List Row) (k : Key) (i : ℕ) (rise : IsAscending key_cmp row_key rows) where
  pub less_before : i < length rows → ((d : Row) → key_cmp (row_key (get_or rows i d)) k ≡ Less)
      → (j : ℕ) (d : Row) → j < i + 1 → key_cmp (row_key (get_or rows j d)) k ≡ Less
  less_before within less j d le = elim (cases_lt j i) [
    | inl before ↦ key_total.trans (get_or rows j d).key (get_or rows i d).key k
        (IsAscending-at key_cmp key_total row_key rows j i d rise before within) (less d)
    | inr behind ↦
        let here : j ≡ i = omega arith in
        ap (λ n. key_cmp (row_key (get_or rows n d)) k) here ∙ less d
  ]

  pub greater_behind : ((d : Row) → key_cmp (row_key (get_or rows i d)) k ≡ Greater)
      → (j : ℕ) (d : Row) → i ≤ j → j < length rows → key_cmp (row_key (get_or rows j d)) k ≡ Greater
  greater_behind greater j d le within = elim (cases_lt i j) [
    | inl behind ↦
        let own = Less-from_Greater key_cmp key_total row_key (get_or rows i d).key k (greater d) in
        Greater-from_Less key_cmp key_total row_key k (get_or rows j d).key
        (key_total.trans k (get_or rows i d).key (get_or rows j d).key own
        (IsAscending-at key_cmp key_total row_key rows i j d rise behind within))
    | inr before ↦
        let here : j ≡ i = omega arith in
        ap (λ n. key_cmp (row_key (get_or rows n d)) k) here ∙ greater d
  ]
