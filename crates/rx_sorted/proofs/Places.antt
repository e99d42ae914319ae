-- What a binary search finds in an ascending list, and what an edit at that place does.
use Rattle.std.proofs.Common.{◌≡◌, ℕ, zero, suc, ◌+◌, ◌-◌, ◌<◌, ◌≤◌, ◌≢◌, List, [], ◌∷◌, length, get_or, set, Some}
use Rattle.std.proofs.Common.{None, Result, Ok, Err, IfOk, IfErr, true, false, refl, sym, inl, inr, ap, subst, ◌∙◌}
use Rattle.std.proofs.Common.{arith}
use Rattle.std.specs.Option.{is_some}
use Rattle.std.specs.Result.{is_ok}
use Rattle.std.specs.List.{insert, remove}
use Rattle.std.specs.List.Sorted.{IsSearchInRange, IsBinarySearchResult}
use Rattle.std.specs.Cmp.{IsTotalOrder}
use Rattle.std.specs.Ordering.{is_lt, is_eq}
use Rattle.std.specs.declared.cmp.Ordering.{Ordering}
use Rattle.std.specs.declared.cmp.Ordering.TheVariants.{Less, Equal}
use Rattle.std.proofs.lemmas.Bool.{cases_Bool, cases_lt}
use Rattle.std.proofs.lemmas.Cmp.{alike_right, tied_back, tied_itself}
use Rattle.std.proofs.lemmas.List.{get_or_default}
use Rattle.std.proofs.lemmas.List.Sorted.{searchable_from_sorted}
use Rattle.rx_sorted.specs.Ascending.{has_key, IsAscending, IsAt, IsGap, contains_key, item_at, put, without}
use Rattle.rx_sorted.proofs.Keys.{Greater-from_Less, IsBelow-tied, without-below}
use Rattle.rx_sorted.proofs.Kept.{IsAscending-at, IsAscending-put, IsAscending-without}

module _ {X K : Type 0} (cmp : K → K → Ordering) (order : IsTotalOrder cmp) (key : X → K) where
  -- a binary search by key ends at the key, or at the gap for it
  pub searched : (xs : List X) (k : K) (r : Result ℕ ℕ) → IsAscending cmp key xs → IsSearchInRange r (length xs)
      → IsBinarySearchResult (λ x. cmp (key x) k) xs r → IfOk r (IsAt cmp key xs k) × IfErr r (IsGap cmp key xs k)
  searched xs k (Ok at) a in_range equal = (record { in_range = in_range; has_it = equal }, tt)
  searched xs k (Err at) a in_range parted =
      let down : (i : ℕ) (d : X) → 0 ≤ i → i + 1 < length xs
      → is_lt (cmp (key (get_or xs (i + 1) d)) (key (get_or xs i d))) ≡ false =
      λ i d low high. ap is_lt (Greater-from_Less cmp order key _ _
      (IsAscending-at cmp order key xs i (i + 1) d a (omega arith) high)) in
      let up = searchable_from_sorted order key xs k down in (
        tt,
        record {
          in_range = in_range;
          before = λ j d lt. (parted up).0 j d (omega arith) lt;
          after = λ j d le lt. (parted up).1 j d le lt;
        },
      )

  -- ---- the gap for a key

  IsGap-tail : (x : X) (xs : List X) (k : K) (i : ℕ) → IsGap cmp key (x ∷ xs) k i → IsGap cmp key xs k (i - 1)
  IsGap-tail x xs k i gap = record {
    in_range = omega (arith, gap.in_range);
    before = λ j d lt. gap.before (suc j) d (omega arith);
    after = λ j d le lt. gap.after (suc j) d (omega arith) (omega arith);
  }

  IsGap-next : (x : X) (xs : List X) (k : K) (i : ℕ) → IsGap cmp key (x ∷ xs) k (suc i) → IsGap cmp key xs k i
  IsGap-next x xs k i gap = record {
    in_range = omega (arith, gap.in_range);
    before = λ j d lt. gap.before (suc j) d (omega arith);
    after = λ j d le lt. gap.after (suc j) d (omega arith) (omega arith);
  }

  -- no item has the key of a gap
  pub has_key-gap : (xs : List X) (k : K) (i : ℕ) → IsGap cmp key xs k i → (j : ℕ) (d : X) → j < length xs
      → has_key cmp key k (get_or xs j d) ≡ false
  has_key-gap xs k i gap j d in_range = elim (cases_lt j i) [
    | inl below ↦ rw (gap.before j d below) refl
    | inr above ↦ rw (gap.after j d above in_range) refl
  ]

  pub item_at-gap : (xs : List X) (k : K) (i : ℕ) → IsGap cmp key xs k i → item_at cmp key xs k ≡ None
  item_at-gap [] k i gap = refl
  item_at-gap (x ∷ xs) k i gap = rw (has_key-gap (x ∷ xs) k i gap 0 x (omega arith))
      (item_at-gap xs k (i - 1) (IsGap-tail x xs k i gap))

  -- nothing is taken out where no item has the key
  pub without-gap : (xs : List X) (k : K) (i : ℕ) → IsGap cmp key xs k i → without cmp key xs k ≡ xs
  without-gap [] k i gap = refl
  without-gap (x ∷ xs) k i gap = rw (has_key-gap (x ∷ xs) k i gap 0 x (omega arith))
      (ap (λ ys. x ∷ ys) (without-gap xs k (i - 1) (IsGap-tail x xs k i gap)))

  -- an insert in the gap is a put
  pub insert-gap : (xs : List X) (x : X) (i : ℕ) → IsGap cmp key xs (key x) i → insert xs i x ≡ put cmp key xs x
  insert-gap [] x zero gap = refl
  insert-gap [] x (suc i) gap = refl
  insert-gap (y ∷ ys) x zero gap = rw (gap.after 0 x (omega arith) (omega arith)) refl
  insert-gap (y ∷ ys) x (suc i) gap = rw (gap.before 0 x (omega arith))
      (ap (λ zs. y ∷ zs) (insert-gap ys x i (IsGap-next y ys (key x) i gap)))

  pub IsAscending-insert : (xs : List X) (x : X) (i : ℕ) → IsAscending cmp key xs → IsGap cmp key xs (key x) i
      → IsAscending cmp key (insert xs i x)
  IsAscending-insert xs x i a gap = rw (insert-gap xs x i gap) (IsAscending-put cmp order key xs x a)

  -- ---- the place of a key

  IsAt-next : (x : X) (xs : List X) (k : K) (i : ℕ) → IsAt cmp key (x ∷ xs) k (suc i) → IsAt cmp key xs k i
  IsAt-next x xs k i is_at = record { in_range = omega (arith, is_at.in_range); has_it = is_at.has_it }

  -- the place of an item is that of its key
  pub IsAt-itself : (xs : List X) (i : ℕ) (d : X) → i < length xs → IsAt cmp key xs (key (get_or xs i d)) i
  IsAt-itself xs i d in_range = record {
    in_range = in_range;
    has_it = λ e. subst (λ x. cmp (key x) (key (get_or xs i d)) ≡ Equal) (get_or_default xs i d e in_range)
        (tied_itself order (key (get_or xs i d)));
  }

  -- no other item has the key of the item at a place
  pub has_key-elsewhere : (xs : List X) (k : K) (i : ℕ) → IsAscending cmp key xs → IsAt cmp key xs k i
      → (j : ℕ) (d : X) → j < length xs → j ≢ i → has_key cmp key k (get_or xs j d) ≡ false
  has_key-elsewhere xs k i a is_at j d in_range differs =
      let here = key (get_or xs i d) in
      let there = key (get_or xs j d) in
      let same : cmp there here ≡ cmp there k = alike_right order here k there (is_at.has_it d) in
      elim (cases_lt j i) [
        | inl below ↦ ap is_eq (sym same ∙ IsAscending-at cmp order key xs j i d a below is_at.in_range)
        | inr above ↦ ap is_eq (sym same ∙ Greater-from_Less cmp order key here there
            (IsAscending-at cmp order key xs i j d a (omega arith) in_range))
      ]

  pub item_at-at : (xs : List X) (k : K) (i : ℕ) (d : X) → IsAscending cmp key xs → IsAt cmp key xs k i
      → item_at cmp key xs k ≡ Some (get_or xs i d)
  item_at-at [] k i d a is_at = absurd (omega (arith, is_at.in_range))
  item_at-at (x ∷ xs) k zero d a is_at = rw (is_at.has_it d) refl
  item_at-at (x ∷ xs) k (suc i) d a is_at =
      rw (has_key-elsewhere (x ∷ xs) k (suc i) a is_at 0 d (omega arith) (omega arith))
      (item_at-at xs k i d a.1 (IsAt-next x xs k i is_at))

  pub contains_key-at : (xs : List X) (k : K) (i : ℕ) → IsAt cmp key xs k i → contains_key cmp key xs k ≡ true
  contains_key-at [] k i is_at = absurd (omega (arith, is_at.in_range))
  contains_key-at (x ∷ xs) k zero is_at = rw (is_at.has_it x) refl
  contains_key-at (x ∷ xs) k (suc i) is_at = elim (cases_Bool (has_key cmp key k x)) [
    | inl here ↦ rw here
    | inr other ↦ rw other (contains_key-at xs k i (IsAt-next x xs k i is_at))
  ]

  pub contains_key-gap : (xs : List X) (k : K) (i : ℕ) → IsGap cmp key xs k i → contains_key cmp key xs k ≡ false
  contains_key-gap xs k i gap = ap is_some (item_at-gap xs k i gap)

  -- a search says whether an item has the key
  pub contains_key-searched : (xs : List X) (k : K) (r : Result ℕ ℕ) → IfOk r (IsAt cmp key xs k)
      → IfErr r (IsGap cmp key xs k) → is_ok r ≡ contains_key cmp key xs k
  contains_key-searched xs k (Ok at) found absent = sym (contains_key-at xs k at found)
  contains_key-searched xs k (Err at) found absent = sym (contains_key-gap xs k at absent)

  -- a removal at the key's place is the list without the key
  pub remove-at : (xs : List X) (k : K) (i : ℕ) → IsAscending cmp key xs → IsAt cmp key xs k i
      → remove xs i ≡ without cmp key xs k
  remove-at [] k i a is_at = absurd (omega (arith, is_at.in_range))
  remove-at (x ∷ xs) k zero a is_at = rw (is_at.has_it x)
      (sym (without-below cmp order key k xs
      (IsBelow-tied cmp order key k (key x) xs (tied_back order (key x) k (is_at.has_it x)) a.0)))
  remove-at (x ∷ xs) k (suc i) a is_at =
      rw (has_key-elsewhere (x ∷ xs) k (suc i) a is_at 0 x (omega arith) (omega arith))
      (ap (λ ys. x ∷ ys) (remove-at xs k i a.1 (IsAt-next x xs k i is_at)))

  pub IsAscending-remove : (xs : List X) (i : ℕ) → IsAscending cmp key xs → i < length xs
      → IsAscending cmp key (remove xs i)
  IsAscending-remove [] i a in_range = absurd (omega arith)
  IsAscending-remove (x ∷ xs) i a in_range =
      let there = key (get_or (x ∷ xs) i x) in
      rw (remove-at (x ∷ xs) there i a (IsAt-itself (x ∷ xs) i x in_range))
      (IsAscending-without cmp order key (x ∷ xs) there a)

  -- a write over the item with the key is a put
  pub set-at : (xs : List X) (x : X) (i : ℕ) → IsAscending cmp key xs → IsAt cmp key xs (key x) i
      → set xs i x ≡ put cmp key xs x
  set-at [] x i a is_at = absurd (omega (arith, is_at.in_range))
  set-at (y ∷ ys) x zero a is_at = rw (is_at.has_it x) refl
  set-at (y ∷ ys) x (suc i) a is_at =
      let less : cmp (key y) (key x) ≡ Less = sym
      (alike_right order (key (get_or ys i x)) (key x) (key y) (is_at.has_it x))
      ∙ IsAscending-at cmp order key (y ∷ ys) 0 (suc i) x a (omega arith) is_at.in_range in
      rw less (ap (λ zs. y ∷ zs) (set-at ys x i a.1 (IsAt-next y ys (key x) i is_at)))

  pub IsAscending-set : (xs : List X) (x : X) (i : ℕ) → IsAscending cmp key xs → IsAt cmp key xs (key x) i
      → IsAscending cmp key (set xs i x)
  IsAscending-set xs x i a is_at = rw (set-at xs x i a is_at) (IsAscending-put cmp order key xs x a)
