-- Filters of any list.
use Rattle.std.proofs.Common.{◌≡◌, zero, suc, List, [], ◌∷◌, Bool, true, false, cond, ap, ◌∙◌, inl, inr, refl, arith}
use Rattle.std.specs.List.{All, Contains, filter, find}
use Rattle.std.proofs.lemmas.Bool.{cases_Bool, both_ways}
use Rattle.std.proofs.lemmas.List.Elements.{All-contains, All-contains_itself, All-filter, All-head, All-tail, filter_passes}

-- where p holds of an item, q holds too
pub filter_within : {X : Type 0} (p q : X → Bool) (xs : List X) → All (λ x. p x ≡ true → q x ≡ true) xs
    → filter p (filter q xs) ≡ filter p xs
filter_within p q [] h = refl
filter_within {X} p q (x ∷ xs) h =
    let P : X → Type 0 = λ y. p y ≡ true → q y ≡ true in
    let rest : filter p (filter q xs) ≡ filter p xs = filter_within p q xs (All-tail P x xs h) in
    elim (cases_Bool (q x)) [
      | inl t ↦ rw t (ap (λ ys. cond (p x) (x ∷ ys) ys) rest)
      | inr f ↦ elim (cases_Bool (p x)) [
        | inl t ↦ absurd (both_ways _ f (All-head P x xs h t))
        | inr g ↦
            rw (f, g) rest
      ]
    ]

pub filter_swap : {X : Type 0} (p q : X → Bool) (xs : List X) → filter p (filter q xs) ≡ filter q (filter p xs)
filter_swap p q [] = refl
filter_swap p q (x ∷ xs) = elim (cases_Bool (q x)) [
  | inl t ↦ elim (cases_Bool (p x)) [
    | inl u ↦ simp (t, u) (ap (λ ys. x ∷ ys) (filter_swap p q xs))
    | inr g ↦
        simp (t, g) (filter_swap p q xs)
  ]
  | inr f ↦ elim (cases_Bool (p x)) [
    | inl u ↦ simp (f, u) (filter_swap p q xs)
    | inr g ↦
        simp (f, g) (filter_swap p q xs)
  ]
]

-- tests that agree on the items keep the same ones
pub filter_on : {X : Type 0} (p q : X → Bool) (xs : List X) → All (λ x. p x ≡ q x) xs → filter p xs ≡ filter q xs
filter_on p q [] h = refl
filter_on {X} p q (x ∷ xs) h =
    let P : X → Type 0 = λ y. p y ≡ q y in
    rw (All-head P x xs h) (ap (λ ys. cond (q x) (x ∷ ys) ys) (filter_on p q xs (All-tail P x xs h)))

pub filter_all : {X : Type 0} (p : X → Bool) (xs : List X) → All (λ x. p x ≡ true) xs → filter p xs ≡ xs
filter_all p [] h = refl
filter_all {X} p (x ∷ xs) h =
    let P : X → Type 0 = λ y. p y ≡ true in
    rw (All-head P x xs h) (ap (λ ys. x ∷ ys) (filter_all p xs (All-tail P x xs h)))

pub filter_none : {X : Type 0} (p : X → Bool) (xs : List X) → All (λ x. p x ≡ false) xs → filter p xs ≡ []
filter_none p [] h = refl
filter_none {X} p (x ∷ xs) h =
    let P : X → Type 0 = λ y. p y ≡ false in
    rw (All-head P x xs h) (filter_none p xs (All-tail P x xs h))

-- an item of a filter is an item that passes, and the other way round
pub Contains-filter : {X : Type 0} (p : X → Bool) (xs : List X) (x : X) → Contains (filter p xs) x
    → Contains xs x × (p x ≡ true)
Contains-filter {X} p xs x among = (
  All-contains (Contains xs) (filter p xs) x (All-filter p (Contains xs) xs (All-contains_itself xs)) among,
  All-contains (λ y. p y ≡ true) (filter p xs) x (filter_passes p xs) among,
)

pub Contains-filter_kept : {X : Type 0} (p : X → Bool) (xs : List X) (x : X) → Contains xs x → p x ≡ true
    → Contains (filter p xs) x
Contains-filter_kept p [] x among t = absurd (omega (arith, among.1))
Contains-filter_kept p (y ∷ ys) x (zero, in_range, is) t = let here : p y ≡ true = ap p is ∙ t in
    rw here (0, omega arith, is)
Contains-filter_kept p (y ∷ ys) x (suc i, in_range, is) t =
    let rest = Contains-filter_kept p ys x (i, omega arith, is) t in
    elim (cases_Bool (p y)) [
      | inl u ↦ rw u (suc rest.0, omega (arith, rest.1), rest.2)
      | inr f ↦ rw f rest
    ]

-- an item that passes the filter is found in the filtered list, and it is the same one
pub find_filter : {A : Type 0} (q p : A → Bool) (xs : List A) → ((x : A) → q x ≡ true → p x ≡ true)
    → find q (filter p xs) ≡ find q xs
find_filter q p [] h = refl
find_filter q p (x ∷ xs) h = elim (cases_Bool (p x)) [
  | inl t ↦ elim (cases_Bool (q x)) [
    | inl here ↦ simp (t, here)
    | inr other ↦ simp (t, other) (find_filter q p xs h)
  ]
  | inr f ↦ elim (cases_Bool (q x)) [
    | inl here ↦ absurd (both_ways _ f (h x here))
    | inr other ↦ rw (f, other) (find_filter q p xs h)
  ]
]
