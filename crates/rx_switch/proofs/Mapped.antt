-- What is made of the items of a list that know their places.
use Rattle.std.proofs.Common.{◌≡◌, ℕ, suc, ◌<◌, List, [], ◌∷◌, get_or, length, map, refl, ap, sym, ◌∙◌, arith}
use Rattle.std.specs.List.{AllZip}

-- what is the same of each item, seen one way, is the same of the list
pub same_mapped : {X Y Z : Type 0} (f : X → Z) (h : X → Y) (g : Y → Z) (xs : List X)
    → ((k : ℕ) (x : X) → k < length xs → get_or xs k x ≡ x → f x ≡ g (h x)) → map f xs ≡ map g (map h xs)
same_mapped f h g [] same = refl
same_mapped f h g (x ∷ xs) same =
    ap (λ z. z ∷ map f xs) (same 0 x (omega arith) refl)
    ∙ ap (λ zs. g (h x) ∷ zs) (same_mapped f h g xs (λ k y low is. same (suc k) y (omega arith) is))

map-map : {X Y Z : Type 0} (f : X → Y) (g : Y → Z) (xs : List X) → map g (map f xs) ≡ map (λ x. g (f x)) xs
map-map f g [] = refl
map-map f g (x ∷ xs) = ap (λ zs. g (f x) ∷ zs) (map-map f g xs)

-- what is made alike of two lists is made alike of a part of it
pub mapped_twice : {X W Y Z : Type 0} (f : X → Y) (h : W → Y) (g : Y → Z) (xs : List X) (ws : List W) → map f xs ≡ map h ws
    → map (λ x. g (f x)) xs ≡ map (λ w. g (h w)) ws
mapped_twice f h g xs ws same = sym (map-map f g xs) ∙ ap (map g) same ∙ map-map h g ws

-- what is made alike of the items of two lists, place by place
pub zipped : {X Y Z : Type 0} (f : X → Z) (h : Y → Z) (ys : List Y) (xs : List X) → AllZip (λ y x. f x ≡ h y) ys xs
    → map f xs ≡ map h ys
zipped f h [] [] all = refl
zipped f h [] (x ∷ xs) all = absurd all
zipped f h (y ∷ ys) [] all = absurd all
zipped f h (y ∷ ys) (x ∷ xs) all = ap (λ z. z ∷ map f xs) all.0 ∙ ap (λ zs. h y ∷ zs) (zipped f h ys xs all.1)
