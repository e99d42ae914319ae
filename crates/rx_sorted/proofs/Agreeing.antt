-- Ascending lists that agree, put together: each is a part of the whole.
use Rattle.std.proofs.Common.{◌≡◌, zero, suc, List, [], ◌∷◌, map, Bool, true, Option, Some, None, refl, sym}
use Rattle.std.proofs.Common.{ap, subst, ◌∙◌, inl, inr, arith}
use Rattle.std.specs.Prelude.{◌⊎◌}
use Rattle.std.specs.Option.{option_or}
use Rattle.std.specs.List.{All, Contains, filter, fold}
use Rattle.std.specs.Cmp.{IsTotalOrder}
use Rattle.std.specs.declared.cmp.Ordering.{Ordering}
use Rattle.std.proofs.lemmas.List.Elements.{All-contains}
use Rattle.rx_sorted.specs.Ascending.{IsAscending, item_at, put_all}
use Rattle.rx_sorted.specs.Joined.{Agree, joined}
use Rattle.rx_sorted.proofs.Edits.{same_members}
use Rattle.rx_sorted.proofs.Filters.{Contains-filter, Contains-filter_kept}
use Rattle.rx_sorted.proofs.Kept.{IsAscending-filter}
use Rattle.rx_sorted.proofs.LookUps.{item_at-found, item_at-from_contains, item_at-put_all}
use Rattle.rx_sorted.proofs.Joined.{IsAscending-joined}

Contains-cons : {A : Type 0} (x y : A) (xs : List A) → Contains xs y → Contains (x ∷ xs) y
Contains-cons x y xs among = (suc among.0, omega (arith, among.1), among.2)

Contains-first : {A : Type 0} (x : A) (xs : List A) → Contains (x ∷ xs) x
Contains-first x xs = (0, omega arith, refl)

module _ {X K : Type 0} (cmp : K → K → Ordering) (order : IsTotalOrder cmp) (key : X → K) where
  module _ {B : Type 0} (list_of : B → List X) where
    -- what is found in lists put together comes from one of them
    found_onto : (names : List B) (part : List X) (k : K) (x : X)
        → ((b : B) → Contains names b → IsAscending cmp key (list_of b))
        → item_at cmp key (fold (put_all cmp key) part (map list_of names)) k ≡ Some x
        → (item_at cmp key part k ≡ Some x) ⊎ ((b : B) × Contains names b × (item_at cmp key (list_of b) k ≡ Some x))
    found_onto [] part k x each h = inl h
    found_onto (c ∷ names) part k x each h =
        elim (found_onto names (put_all cmp key part (list_of c)) k x
        (λ b among. each b (Contains-cons c b names among)) h) [
          | inl now ↦ elim (from_either (item_at cmp key (list_of c) k) (item_at cmp key part k)
              (sym (item_at-put_all cmp order key part (list_of c) k (each c (Contains-first c names))) ∙ now)) [
                | inl here ↦ inr (c, Contains-first c names, here)
                | inr before ↦ inl before
              ]
          | inr later ↦ inr (later.0, Contains-cons c later.0 names later.1, later.2)
        ]
      where
        from_either : (o q : Option X) → option_or o q ≡ Some x → (o ≡ Some x) ⊎ (q ≡ Some x)
        from_either None q e = inr e
        from_either (Some y) q e = inl e

    -- what is found in one of them, and agrees with the others, is found in all together
    stays_onto : (names : List B) (part : List X) (k : K) (x : X)
        → ((b : B) → Contains names b → IsAscending cmp key (list_of b))
        → ((b : B) (y : X) → Contains names b → item_at cmp key (list_of b) k ≡ Some y → y ≡ x)
        → item_at cmp key part k ≡ Some x → item_at cmp key
        (fold (put_all cmp key) part (map list_of names)) k ≡ Some x
    stays_onto [] part k x each agree h = h
    stays_onto (c ∷ names) part k x each agree h =
        let here : item_at cmp key (put_all cmp key part (list_of c)) k ≡ Some x =
        item_at-put_all cmp order key part (list_of c) k (each c (Contains-first c names))
        ∙ rw h (one_of (item_at cmp key (list_of c) k) (λ y m. agree c y (Contains-first c names) m)) in
        stays_onto names (put_all cmp key part (list_of c)) k x (λ b among. each b (Contains-cons c b names among))
        (λ b y among m. agree b y (Contains-cons c b names among) m) here
      where
        one_of : (o : Option X) → ((y : X) → o ≡ Some y → y ≡ x) → option_or o (Some x) ≡ Some x
        one_of None e = refl
        one_of (Some y) e = ap Some (e y refl)

    comes_onto : (names : List B) (part : List X) (b : B) (k : K) (x : X)
        → ((c : B) → Contains names c → IsAscending cmp key (list_of c))
        → ((c : B) (y : X) → Contains names c → item_at cmp key (list_of c) k ≡ Some y → y ≡ x)
        → Contains names b → item_at cmp key (list_of b) k ≡ Some x
        → item_at cmp key (fold (put_all cmp key) part (map list_of names)) k ≡ Some x
    comes_onto [] part b k x each agree among h = absurd (omega (arith, among.1))
    comes_onto (c ∷ names) part b k x each agree (zero, in_range, is) h =
        let there : item_at cmp key (list_of c) k ≡ Some x =
        subst (λ d. item_at cmp key (list_of d) k ≡ Some x) (sym is) h in
        stays_onto names (put_all cmp key part (list_of c)) k x (λ d more. each d (Contains-cons c d names more))
        (λ d y more m. agree d y (Contains-cons c d names more) m)
        (item_at-put_all cmp order key part (list_of c) k (each c (Contains-first c names)) ∙ rw there)
    comes_onto (c ∷ names) part b k x each agree (suc i, in_range, is) h =
        comes_onto names (put_all cmp key part (list_of c)) b k x (λ d more. each d (Contains-cons c d names more))
        (λ d y more m. agree d y (Contains-cons c d names more) m) (i, omega arith, is) h

    module _ (names : List B) (agree : Agree cmp key names list_of) where
      -- in lists that agree, each item of one is found in all together
      pub item_at-joined : (b : B) (k : K) (x : X) → Contains names b → item_at cmp key (list_of b) k ≡ Some x
          → item_at cmp key (joined cmp key (map list_of names)) k ≡ Some x
      item_at-joined b k x among h = comes_onto names [] b k x agree.ascending
          (λ c y there m. agree.one c b k y x there among m h) among h

      -- and what is found in all together is found in one
      pub item_at-joined_from : (k : K) (x : X) → item_at cmp key (joined cmp key (map list_of names)) k ≡ Some x
          → (b : B) × Contains names b × (item_at cmp key (list_of b) k ≡ Some x)
      item_at-joined_from k x h = elim (found_onto names [] k x agree.ascending h)
          [ inl nothing ↦ absurd (cc nothing) | inr one ↦ one ]

      -- a list that has just the items of its own test is the part of all together that passes it
      pub filter-joined : (has : B → X → Bool) (b : B) → Contains names b → All (λ x. has b x ≡ true) (list_of b)
          → ((c : B) (x : X) → Contains names c → Contains (list_of c) x → has b x ≡ true → Contains (list_of b) x)
          → filter (has b) (joined cmp key (map list_of names)) ≡ list_of b
      filter-joined has b among own all =
          let together = joined cmp key (map list_of names) in
          let ascends : IsAscending cmp key together = IsAscending-joined cmp order key (map list_of names) in
          same_members cmp order key (filter (has b) together) (list_of b)
          (IsAscending-filter cmp order key (has b) together ascends) (agree.ascending b among)
          (λ x there.
          let parts = Contains-filter (has b) together x there in
          let one = item_at-joined_from (key x) x (item_at-from_contains cmp order key together x ascends parts.0) in
          let found = item_at-found cmp order key (list_of one.0) (key x) x one.2 in
          all one.0 x one.1 found.0 parts.1)
          (λ x there.
          let here = item_at-from_contains cmp order key (list_of b) x (agree.ascending b among) there in
          let found = item_at-found cmp order key together (key x) x (item_at-joined b (key x) x among here) in
          Contains-filter_kept (has b) together x found.0 (All-contains (λ y. has b y ≡ true) (list_of b) x own there))
