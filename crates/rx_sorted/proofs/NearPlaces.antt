-- What one item of an ascending list says of those before it and after it.
use Rattle.std.proofs.Common.{◌≡◌, ℕ, ◌+◌, ◌<◌, ◌≤◌, List, length, get_or, true, is_gt, refl, sym, subst, inl, inr, arith}
use Rattle.std.specs.Cmp.{IsTotalOrder}
use Rattle.std.specs.declared.cmp.Ordering.{Ordering}
use Rattle.std.specs.declared.cmp.Ordering.TheVariants.{Less, Equal, Greater}
use Rattle.std.proofs.lemmas.Bool.{cases_lt}
use Rattle.std.proofs.lemmas.List.{get_or_default}
use Rattle.rx_sorted.specs.Ascending.{IsAscending}
use Rattle.rx_sorted.proofs.Keys.{Greater-from_Less, Less-from_Greater}
use Rattle.rx_sorted.proofs.Kept.{IsAscending-at}
use Rattle.rx_sorted.specs.Near.{AreBefore, AreBehind}

pub Greater-from_is_gt : (o : Ordering) → is_gt o ≡ true → o ≡ Greater
Greater-from_is_gt Less h = cc
Greater-from_is_gt Equal h = cc
Greater-from_is_gt Greater h = refl

module _ {X K : Type 0} (cmp : K → K → Ordering) (order : IsTotalOrder cmp) (key : X → K) where
  pub none_before : (xs : List X) (k : K) → AreBefore cmp key xs k 0
  none_before xs k = record { in_range = omega arith; less = λ j d lt. absurd (omega (arith, lt)) }

  pub all_before : (xs : List X) (k : K) (i : ℕ) (d : X) → IsAscending cmp key xs → i < length xs
      → cmp (key (get_or xs i d)) k ≡ Less → AreBefore cmp key xs k (i + 1)
  all_before xs k i d rise within here = record {
    in_range = omega (arith, within);
    less = λ j e lt.
        let at : cmp (key (get_or xs i e)) k ≡ Less = subst (λ x. cmp (key x) k ≡ Less) (get_or_default xs i d e within) here in
        elim (cases_lt j i) [
          | inl below ↦ order.trans (key (get_or xs j e)) (key (get_or xs i e)) k
              (IsAscending-at cmp order key xs j i e rise below within) at
          | inr above ↦ let same : j ≡ i = omega (arith, above, lt) in
              subst (λ n. cmp (key (get_or xs n e)) k ≡ Less) (sym same) at
        ];
  }

  pub none_behind : (xs : List X) (k : K) (i : ℕ) → length xs ≤ i → AreBehind cmp key xs k i
  none_behind xs k i past = record { greater = λ j d le lt. absurd (omega (arith, past, le, lt)) }

  pub all_behind : (xs : List X) (k : K) (i : ℕ) (d : X) → IsAscending cmp key xs → i < length xs
      → cmp (key (get_or xs i d)) k ≡ Greater → AreBehind cmp key xs k i
  all_behind xs k i d rise within here = record {
    greater = λ j e le lt.
        let at : cmp (key (get_or xs i e)) k ≡ Greater = subst (λ x. cmp (key x) k ≡ Greater) (get_or_default xs i d e within) here in
        elim (cases_lt i j) [
          | inl above ↦ Greater-from_Less cmp order key k (key (get_or xs j e))
              (order.trans k (key (get_or xs i e)) (key (get_or xs j e)) (Less-from_Greater cmp order key (key (get_or xs i e)) k at)
              (IsAscending-at cmp order key xs i j e rise above lt))
          | inr below ↦ let same : j ≡ i = omega (arith, below, le) in
              subst (λ n. cmp (key (get_or xs n e)) k ≡ Greater) (sym same) at
        ];
  }
