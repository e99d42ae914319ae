-- Two lists whose items belong together, place by place.
use Rattle.std.proofs.Common.{◌≡◌, ℕ, zero, suc, ◌+◌, ◌<◌, List, [], ◌∷◌, ◌++◌, Some, get_or, length, map, take, refl, ap, sym, subst}
use Rattle.std.proofs.Common.{◌∙◌, arith}
use Rattle.std.specs.List.{AllZip, slice_get}
use Rattle.std.proofs.lemmas.List.{map-append, take_more}
use Rattle.rayon.proofs.ListFacts.{AllZip-append}

module _ {A B : Type 0} (R : A → B → Type 0) where
  -- the item to which one belongs
  pub zipped_at : (xs : List A) (ys : List B) (n : ℕ) (y : B) → AllZip R xs ys → slice_get ys n ≡ Some y
      → (x : A) × (slice_get xs n ≡ Some x) × R x y
  zipped_at [] [] n y each at = absurd (let bad : slice_get [] n ≡ Some y = at in cc)
  zipped_at [] (b ∷ ys) n y each at = absurd each
  zipped_at (a ∷ xs) [] n y each at = absurd each
  zipped_at (a ∷ xs) (b ∷ ys) zero y each at =
      let same : b ≡ y = let e : Some b ≡ Some y = at in cc in
      (a, refl, rw (← same) each.0)
  zipped_at (a ∷ xs) (b ∷ ys) (suc n) y each at = zipped_at xs ys n y each.1 at

  -- and the other way
  pub zipped_to : (xs : List A) (ys : List B) (n : ℕ) (x : A) → AllZip R xs ys → slice_get xs n ≡ Some x
      → (y : B) × (slice_get ys n ≡ Some y) × R x y
  zipped_to [] [] n x each at = absurd (let bad : slice_get [] n ≡ Some x = at in cc)
  zipped_to [] (b ∷ ys) n x each at = absurd each
  zipped_to (a ∷ xs) [] n x each at = absurd each
  zipped_to (a ∷ xs) (b ∷ ys) zero x each at =
      let same : a ≡ x = let e : Some a ≡ Some x = at in cc in
      (b, refl, rw (← same) each.0)
  zipped_to (a ∷ xs) (b ∷ ys) (suc n) x each at = zipped_to xs ys n x each.1 at

  pub zipped_long : (xs : List A) (ys : List B) → AllZip R xs ys → length xs ≡ length ys
  zipped_long [] [] each = refl
  zipped_long [] (b ∷ ys) each = absurd each
  zipped_long (a ∷ xs) [] each = absurd each
  zipped_long (a ∷ xs) (b ∷ ys) each = ap suc (zipped_long xs ys each.1)

  -- what holds at each place
  pub zipped_by : (xs : List A) (ys : List B) → length xs ≡ length ys
      → ((n : ℕ) (x : A) (y : B) → slice_get xs n ≡ Some x → slice_get ys n ≡ Some y → R x y) → AllZip R xs ys
  zipped_by [] [] long each = tt
  zipped_by [] (b ∷ ys) long each = absurd (let never : ⊥ = omega (arith, long) in never)
  zipped_by (a ∷ xs) [] long each = absurd (let never : ⊥ = omega (arith, long) in never)
  zipped_by (a ∷ xs) (b ∷ ys) long each =
      (each zero a b refl refl, zipped_by xs ys (omega (arith, long)) (λ n x y at to. each (suc n) x y at to))

  -- one more of each
  module _ {C : Type 0} (f : C → A) where
    pub zipped_more : (cs : List C) (ys : List B) (i : ℕ) (d : C) (y : B) → i < length cs
        → AllZip R (map f (take i cs)) ys → R (f (get_or cs i d)) y → AllZip R (map f (take (i + 1) cs)) (ys ++ y ∷ [])
    zipped_more cs ys i d y low each one =
        let c : C = get_or cs i d in
        let more : take (i + 1) cs ≡ take i cs ++ c ∷ [] = take_more cs i d low in
        let mapped : map f (take (i + 1) cs) ≡ map f (take i cs) ++ f c ∷ [] =
        ap (map f) more ∙ map-append f (take i cs) (c ∷ []) in
        subst (λ (xs : List A). AllZip R xs (ys ++ y ∷ [])) (sym mapped)
        (AllZip-append R (map f (take i cs)) (f c ∷ []) ys (y ∷ []) each (one, tt))

-- the next of each
pub zipped_next : {A B : Type 0} (R : A → B → Type 0) (xs : List A) (ys : List B) (i : ℕ) (d : A) (y : B) → i < length xs
    → AllZip R (take i xs) ys → R (get_or xs i d) y → AllZip R (take (i + 1) xs) (ys ++ y ∷ [])
zipped_next {A} {B} R xs ys i d y low each one =
    subst (λ (before : List A). AllZip R before (ys ++ y ∷ [])) (sym (take_more xs i d low))
    (AllZip-append R (take i xs) (get_or xs i d ∷ []) ys (y ∷ []) each (one, tt))

-- the item of a mapped list
pub mapped_at : {A C : Type 0} (f : C → A) (cs : List C) (i : ℕ) (d : C) → i < length cs
    → slice_get (map f cs) i ≡ Some (f (get_or cs i d))
mapped_at f [] i d low = absurd (omega arith)
mapped_at f (c ∷ cs) zero d low = refl
mapped_at f (c ∷ cs) (suc i) d low = mapped_at f cs i d (omega arith)

-- an item of the first few
pub taken_at : {A : Type 0} (xs : List A) (i n : ℕ) (x : A) → slice_get (take i xs) n ≡ Some x → slice_get xs n ≡ Some x
taken_at xs zero n x at = absurd (let bad : slice_get [] n ≡ Some x = at in cc)
taken_at [] (suc i) n x at = absurd (let bad : slice_get [] n ≡ Some x = at in cc)
taken_at (y ∷ xs) (suc i) zero x at = at
taken_at (y ∷ xs) (suc i) (suc n) x at = taken_at xs i n x at
