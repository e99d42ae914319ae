-- Ascending lists put together, and parts of one list put back together.
use Rattle.std.proofs.Common.{◌≡◌, List, [], ◌∷◌, map, Bool, true, false, Option, Some, None, refl, sym}
use Rattle.std.proofs.Common.{ap, ◌∙◌, inl, inr}
use Rattle.std.specs.Prelude.{◌||◌}
use Rattle.std.specs.Bool.{then_some}
use Rattle.std.specs.Option.{option_and_then, option_or}
use Rattle.std.specs.List.{All, filter, fold, list_any}
use Rattle.std.specs.Cmp.{IsTotalOrder}
use Rattle.std.specs.declared.cmp.Ordering.{Ordering}
use Rattle.std.specs.declared.cmp.Ordering.TheVariants.{Equal}
use Rattle.std.proofs.lemmas.Bool.{cases_Bool}
use Rattle.std.proofs.lemmas.List.Elements.{All-head, All-tail, filter_agree}
use Rattle.std.proofs.lemmas.Cmp.{tied_back, tied_itself}
use Rattle.rx_sorted.specs.Ascending.{IsBelow, IsAscending, item_at, put, put_all}
use Rattle.rx_sorted.specs.Joined.{Agree, joined}
use Rattle.rx_sorted.proofs.Edits.{same_item, same_items}
use Rattle.rx_sorted.proofs.Filters.{filter_none, Contains-filter}
use Rattle.rx_sorted.proofs.FilteredPuts.{filter-put}
use Rattle.rx_sorted.proofs.Keys.{IsBelow-filter, put-below}
use Rattle.rx_sorted.proofs.Kept.{IsAscending-filter, IsAscending-put, IsAscending-put_all}
use Rattle.rx_sorted.proofs.LookUps.{item_at-filter, item_at-found, item_at-put_all}

module _ {X K : Type 0} (cmp : K → K → Ordering) (order : IsTotalOrder cmp) (key : X → K) where
  -- ---- two lists

  -- what p keeps may go in before or after the filter
  pub filter-put_all : (p : X → Bool) (xs ys : List X) → All (λ y. p y ≡ true) ys → IsAscending cmp key xs
      → filter p (put_all cmp key xs ys) ≡ put_all cmp key (filter p xs) ys
  filter-put_all p xs [] h a = refl
  filter-put_all p xs (y ∷ ys) h a =
      let P : X → Type 0 = λ z. p z ≡ true in
      filter-put_all p (put cmp key xs y) ys (All-tail P y ys h) (IsAscending-put cmp order key xs y a)
      ∙ ap (λ zs. put_all cmp key zs ys) (filter-put cmp order key p xs y (All-head P y ys h) a)

  -- a test that answers alike where both have a key
  pub filter-put_all_agree : (p : X → Bool) (xs ys : List X) → IsAscending cmp key xs → IsAscending cmp key ys
      → ((k : K) (x y : X) → item_at cmp key xs k ≡ Some x → item_at cmp key ys k ≡ Some y → p x ≡ p y)
      → filter p (put_all cmp key xs ys) ≡ put_all cmp key (filter p xs) (filter p ys)
  filter-put_all_agree p xs ys a b agree =
      let kept : X → Option X = λ x. then_some (p x) x in
      same_items cmp order key (filter p (put_all cmp key xs ys)) (put_all cmp key (filter p xs) (filter p ys))
      (IsAscending-filter cmp order key p (put_all cmp key xs ys) (IsAscending-put_all cmp order key xs ys a))
      (IsAscending-put_all cmp order key (filter p xs) (filter p ys) (IsAscending-filter cmp order key p xs a))
      (λ k.
      item_at-filter cmp order key p (put_all cmp key xs ys) k (IsAscending-put_all cmp order key xs ys a)
      ∙ ap (option_and_then kept) (item_at-put_all cmp order key xs ys k b)
      ∙ either (item_at cmp key xs k) (item_at cmp key ys k) (agree k)
      ∙ sym (item_at-put_all cmp order key (filter p xs) (filter p ys) k (IsAscending-filter cmp order key p ys b)
      ∙ rw (item_at-filter cmp order key p xs k a, item_at-filter cmp order key p ys k b)))
    where
      either : (o q : Option X) → ((x y : X) → o ≡ Some x → q ≡ Some y → p x ≡ p y)
          → option_and_then (λ x. then_some (p x) x) (option_or q o)
          ≡ option_or (option_and_then (λ x. then_some (p x) x) q) (option_and_then (λ x. then_some (p x) x) o)
      either o None h = refl
      either None (Some y) h = elim (cases_Bool (p y)) [ inl t ↦ rw t | inr f ↦ rw f ]
      either (Some x) (Some y) h =
          let same : p x ≡ p y = h x y refl refl in
          elim (cases_Bool (p y)) [ inl t ↦ rw t | inr f ↦ let too : p x ≡ false = same ∙ f in rw (f, too) ]

  -- items above x go in after it
  pub put_all-behind : (x : X) (xs ys : List X) → IsBelow cmp key (key x) ys
      → put_all cmp key (x ∷ xs) ys ≡ x ∷ put_all cmp key xs ys
  put_all-behind x xs [] b = refl
  put_all-behind x xs (y ∷ ys) b = rw b.0 (put_all-behind x (put cmp key xs y) ys b.1)

  put_again : (x : X) (xs : List X) → put cmp key (x ∷ xs) x ≡ x ∷ xs
  put_again x xs = rw (tied_itself order (key x))

  -- two filters of one ascending list, put together
  pub put_all-filters : (p q : X → Bool) (xs : List X) → IsAscending cmp key xs
      → put_all cmp key (filter p xs) (filter q xs) ≡ filter (λ x. p x || q x) xs
  put_all-filters p q [] a = refl
  put_all-filters p q (x ∷ xs) a =
      let both : put_all cmp key (filter p xs) (filter q xs) ≡ filter (λ y. p y || q y) xs =
      put_all-filters p q xs a.1 in
      let above = IsBelow-filter cmp order key q (key x) xs a.0 in
      let behind : put_all cmp key (x ∷ filter p xs) (filter q xs) ≡ x ∷ put_all cmp key (filter p xs) (filter q xs) =
      put_all-behind x (filter p xs) (filter q xs) above in
      elim (cases_Bool (p x)) [
        | inl t ↦ elim (cases_Bool (q x)) [
          | inl u ↦ simp (t, u) (ap (λ zs. put_all cmp key zs (filter q xs)) (put_again x (filter p xs)) ∙ behind
              ∙ ap (λ zs. x ∷ zs) both)
          | inr g ↦ simp (t, g) (behind ∙ ap (λ zs. x ∷ zs) both)
        ]
        | inr f ↦ elim (cases_Bool (q x)) [
          | inl u ↦ simp (f, u) (ap (λ zs. put_all cmp key zs (filter q xs))
              (put-below cmp order key x (filter p xs) (IsBelow-filter cmp order key p (key x) xs a.0)) ∙ behind
              ∙ ap (λ zs. x ∷ zs) both)
          | inr g ↦ simp (f, g) both
        ]
      ]

  -- ---- many lists

  joined_onto : (part : List X) (lists : List (List X)) → IsAscending cmp key part
      → IsAscending cmp key (fold (put_all cmp key) part lists)
  joined_onto part [] a = a
  joined_onto part (xs ∷ lists) a = joined_onto (put_all cmp key part xs) lists
      (IsAscending-put_all cmp order key part xs a)

  pub IsAscending-joined : (lists : List (List X)) → IsAscending cmp key (joined cmp key lists)
  IsAscending-joined lists = joined_onto [] lists tt

  module _ {B : Type 0} (has : B → X → Bool) (xs : List X) (a : IsAscending cmp key xs) where
    filters_onto : (p : X → Bool) (names : List B)
        → fold (put_all cmp key) (filter p xs) (map (λ b. filter (has b) xs) names)
        ≡ filter (λ x. p x || list_any (λ b. has b x) names) xs
    filters_onto p [] = filter_agree p (λ x. p x || false) (λ x. or_false (p x)) xs
      where
        or_false : (t : Bool) → t ≡ (t || false)
        or_false true = refl
        or_false false = refl
    filters_onto p (b ∷ names) =
        ap (λ zs. fold (put_all cmp key) zs (map (λ c. filter (has c) xs) names)) (put_all-filters p (has b) xs a)
        ∙ filters_onto (λ x. p x || has b x) names
        ∙ filter_agree (λ x. (p x || has b x) || list_any (λ c. has c x) names)
        (λ x. p x || (has b x || list_any (λ c. has c x) names))
        (λ x. either (p x) (has b x) (list_any (λ c. has c x) names)) xs
      where
        either : (t u v : Bool) → ((t || u) || v) ≡ (t || (u || v))
        either true u v = refl
        either false u v = refl

    -- parts of one list, put together: what is in some part
    pub joined-filters : (names : List B)
        → joined cmp key (map (λ b. filter (has b) xs) names) ≡ filter (λ x. list_any (λ b. has b x) names) xs
    joined-filters names =
        ap (λ zs. fold (put_all cmp key) zs (map (λ b. filter (has b) xs) names))
        (sym (filter_none (λ x. false) xs (λ k d l. refl)))
        ∙ filters_onto (λ x. false) names

    -- and parts of one list agree
    pub Agree-filters : (names : List B) → Agree cmp key names (λ b. filter (has b) xs)
    Agree-filters names = record {
      ascending = λ b among. IsAscending-filter cmp order key (has b) xs a;
      one = λ b c k x y here there h m.
          let at_x = item_at-found cmp order key (filter (has b) xs) k x h in
          let at_y = item_at-found cmp order key (filter (has c) xs) k y m in
          let tied : cmp (key x) (key y) ≡ Equal =
          order.congr (key x) k (key y) at_x.1 ∙ tied_back order (key y) k at_y.1 in
          let in_xs = Contains-filter (has b) xs x at_x.0 in
          let in_ys = Contains-filter (has c) xs y at_y.0 in
          same_item cmp order key xs x y a in_xs.0 in_ys.0 tied;
    }
