-- Lists read and written by their places.
use Rattle.std.proofs.Common.{◌≡◌, ◌≢◌, ℕ, zero, suc, ◌<◌, List, [], ◌∷◌, length, map}
use Rattle.std.proofs.Common.{set, Some, None, refl, ap, ◌∙◌}
use Rattle.std.specs.List.{All, Contains, slice_get}
use Rattle.std.proofs.lemmas.List.{get_or-set_same, length-set}
use Rattle.std.proofs.lemmas.List.Elements.{All-contains_itself, All-weaker, All-head, All-tail}
use Rattle.std.proofs.lemmas.Option.{slice_get-get_or}

pub slice_get-set_same : {A : Type 0} (xs : List A) (i : ℕ) (x : A) → i < length xs → slice_get (set xs i x) i ≡ Some x
slice_get-set_same xs i x h =
    slice_get-get_or (set xs i x) i x (simp length-set h) ∙ ap Some (get_or-set_same xs i x x h)

pub slice_get-set_other : {A : Type 0} (xs : List A) (i j : ℕ) (x : A) → j ≢ i → slice_get (set xs i x) j ≡ slice_get xs j
slice_get-set_other [] i j x n = refl
slice_get-set_other (y ∷ ys) zero zero x n = absurd (n refl)
slice_get-set_other (y ∷ ys) zero (suc j) x n = refl
slice_get-set_other (y ∷ ys) (suc i) zero x n = refl
slice_get-set_other (y ∷ ys) (suc i) (suc j) x n = slice_get-set_other ys i j x (λ e. n (ap suc e))

-- lists that are the same at each place are one
pub same_places : {A : Type 0} (xs ys : List A) → ((i : ℕ) → slice_get xs i ≡ slice_get ys i) → xs ≡ ys
same_places [] [] h = refl
same_places [] (y ∷ ys) h = absurd (let e : None ≡ Some y = h 0 in cc)
same_places (x ∷ xs) [] h = absurd (let e : Some x ≡ None = h 0 in cc)
same_places (x ∷ xs) (y ∷ ys) h =
    let first : Some x ≡ Some y = h 0 in
    let rest : xs ≡ ys = same_places xs ys (λ i. h (suc i)) in
    cc

-- items that are made of their keys only
pub made_again : {X K : Type 0} (key : X → K) (made : K → X) (xs : List X) → All (λ x. x ≡ made (key x)) xs
    → xs ≡ map made (map key xs)
made_again key made [] h = refl
made_again {X} key made (x ∷ xs) h =
    let P : X → Type 0 = λ y. y ≡ made (key y) in
    let first : x ≡ made (key x) = All-head P x xs h in
    let rest : xs ≡ map made (map key xs) = made_again key made xs (All-tail P x xs h) in
    cc

-- what holds of each that is among a list
pub of_each : {X : Type 0} (P : X → Type 0) (xs : List X) → ((x : X) → Contains xs x → P x) → All P xs
of_each P xs h = All-weaker (Contains xs) P h xs (All-contains_itself xs)
