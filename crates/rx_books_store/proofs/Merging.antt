-- Two ascending lists put together from the front, item by item, and what slots that were opened say.
use Rattle.std.proofs.Common.{◌≡◌, ℕ, suc, ◌+◌, ◌<◌, ◌≤◌, List, [], ◌∷◌, length, get_or, drop, refl, sym, subst, ap, ◌∙◌, arith}
use Rattle.std.specs.Cmp.{IsTotalOrder}
use Rattle.std.specs.declared.cmp.Ordering.{Ordering}
use Rattle.std.specs.declared.cmp.Ordering.TheVariants.{Less, Equal, Greater}
use Rattle.std.proofs.lemmas.List.{length-drop}
use Rattle.std.proofs.Math.Seq.{drop-cons}
use Rattle.rx_sorted.specs.Ascending.{IsAscending, IsBelow, put, put_all}
use Rattle.rx_sorted.proofs.Edits.{put_all-nil}
use Rattle.rx_sorted.proofs.Keys.{IsBelow-through}
use Rattle.rx_sorted.proofs.Kept.{IsAscending-drop}

module _ {X K : Type 0} (cmp : K → K → Ordering) (order : IsTotalOrder cmp) (key : X → K) where
  -- ---- the first item of both lists

  put_all-front : (x : X) (xs ys : List X) → IsBelow cmp key (key x) ys → put_all cmp key (x ∷ xs) ys ≡ x ∷ put_all cmp key xs ys
  put_all-front x xs [] below = refl
  put_all-front x xs (y ∷ ys) below = rw below.0 (put_all-front x (put cmp key xs y) ys below.1)

  merge-less : (x : X) (xs : List X) (y : X) (ys : List X) → IsAscending cmp key (y ∷ ys) → cmp (key x) (key y) ≡ Less
      → put_all cmp key (x ∷ xs) (y ∷ ys) ≡ x ∷ put_all cmp key xs (y ∷ ys)
  merge-less x xs y ys rise less =
      put_all-front x xs (y ∷ ys) (less, IsBelow-through cmp order key (key x) (key y) ys less rise.0)

  merge-equal : (x : X) (xs : List X) (y : X) (ys : List X) → IsAscending cmp key (y ∷ ys) → cmp (key x) (key y) ≡ Equal
      → put_all cmp key (x ∷ xs) (y ∷ ys) ≡ y ∷ put_all cmp key xs ys
  merge-equal x xs y ys rise tied = rw tied (put_all-front y xs ys rise.0)

  merge-greater : (x : X) (xs : List X) (y : X) (ys : List X) → IsAscending cmp key (y ∷ ys) → cmp (key x) (key y) ≡ Greater
      → put_all cmp key (x ∷ xs) (y ∷ ys) ≡ y ∷ put_all cmp key (x ∷ xs) ys
  merge-greater x xs y ys rise more = rw more (put_all-front y (x ∷ xs) ys rise.0)

  -- ---- the same, after this many of each list

  module _ (xs ys : List X) (rise : IsAscending cmp key xs) (too : IsAscending cmp key ys) (i j : ℕ) where
    abbrev left : ℕ → ℕ → List X
    left m n = put_all cmp key (drop m xs) (drop n ys)

    cut : (zs : List X) (n : ℕ) (z : X) → n < length zs → z ≡ get_or zs n z → drop n zs ≡ z ∷ drop (n + 1) zs
    cut zs n z lt is = drop-cons zs n z lt ∙ ap (λ w. w ∷ drop (suc n) zs) (sym is)
        ∙ ap (λ m. z ∷ drop m zs) (let e : suc n ≡ n + 1 = omega arith in e)

    nothing : (zs : List X) (n : ℕ) → length zs ≤ n → drop n zs ≡ []
    nothing zs n past = length_zero (drop n zs) (omega (arith, length-drop n zs))
      where
        length_zero : (ws : List X) → length ws ≡ 0 → ws ≡ []
        length_zero [] h = refl
        length_zero (w ∷ ws) h = absurd (omega arith)

    pub left-none : length xs ≤ i → length ys ≤ j → left i j ≡ []
    left-none a b = rw (nothing xs i a, nothing ys j b) refl

    pub left-first : (x : X) → i < length xs → x ≡ get_or xs i x → length ys ≤ j → left i j ≡ x ∷ left (i + 1) j
    left-first x lt is past =
        rw (nothing ys j past) (cut xs i x lt is)

    pub left-second : (y : X) → j < length ys → y ≡ get_or ys j y → length xs ≤ i → left i j ≡ y ∷ left i (j + 1)
    left-second y lt is past =
        let rest : IsAscending cmp key (drop j ys) = IsAscending-drop cmp order key j ys too in
        let after : IsAscending cmp key (drop (j + 1) ys) = IsAscending-drop cmp order key (j + 1) ys too in
        rw (nothing xs i past) (put_all-nil cmp order key (drop j ys) rest ∙ cut ys j y lt is
        ∙ ap (λ zs. y ∷ zs) (sym (put_all-nil cmp order key (drop (j + 1) ys) after)))

    module _ (x y : X) (lt : i < length xs) (is : x ≡ get_or xs i x) (lt_too : j < length ys) (is_too : y ≡ get_or ys j y) where
      both : left i j ≡ put_all cmp key (x ∷ drop (i + 1) xs) (y ∷ drop (j + 1) ys)
      both = ap (λ zs. put_all cmp key zs (drop j ys)) (cut xs i x lt is)
          ∙ ap (put_all cmp key (x ∷ drop (i + 1) xs)) (cut ys j y lt_too is_too)

      rest_rises : IsAscending cmp key (y ∷ drop (j + 1) ys)
      rest_rises = subst (IsAscending cmp key) (cut ys j y lt_too is_too) (IsAscending-drop cmp order key j ys too)

      pub left-less : cmp (key x) (key y) ≡ Less → left i j ≡ x ∷ left (i + 1) j
      left-less less = both ∙ merge-less x (drop (i + 1) xs) y (drop (j + 1) ys) rest_rises less
          ∙ ap (λ zs. x ∷ put_all cmp key (drop (i + 1) xs) zs) (sym (cut ys j y lt_too is_too))

      pub left-equal : cmp (key x) (key y) ≡ Equal → left i j ≡ y ∷ left (i + 1) (j + 1)
      left-equal tied = both ∙ merge-equal x (drop (i + 1) xs) y (drop (j + 1) ys) rest_rises tied

      pub left-greater : cmp (key x) (key y) ≡ Greater → left i j ≡ y ∷ left i (j + 1)
      left-greater more = both ∙ merge-greater x (drop (i + 1) xs) y (drop (j + 1) ys) rest_rises more
          ∙ ap (λ zs. y ∷ put_all cmp key zs (drop (j + 1) ys)) (sym (cut xs i x lt is))
