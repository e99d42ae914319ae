-- Lists of numbers, one for each item, when the number of one item changes.
use Rattle.std.proofs.Common.{◌≡◌, ◌≢◌, ℕ, zero, suc, ◌<◌, List, [], ◌∷◌, length, get_or, map, set, refl, ap, arith}
use Rattle.std.specs.List.{All, sum_by}
use Rattle.std.proofs.lemmas.List.Sums.{sum_by-le}

map-same : {X : Type 0} (f g : X → ℕ) (xs : List X) (d : X)
    → ((j : ℕ) → j < length xs → g (get_or xs j d) ≡ f (get_or xs j d)) → map f xs ≡ map g xs
map-same f g [] d same = refl
map-same f g (x ∷ xs) d same =
    let first : g x ≡ f x = same 0 (omega arith) in
    rw first (ap (λ ns. f x ∷ ns) (map-same f g xs d (λ j lt. same (suc j) (omega arith))))

-- the numbers by g are those by f but at one place
pub set-map : {X : Type 0} (f g : X → ℕ) (xs : List X) (at v : ℕ) (d : X) → at < length xs
    → g (get_or xs at d) ≡ v → ((j : ℕ) → j < length xs → j ≢ at → g (get_or xs j d) ≡ f (get_or xs j d))
    → set (map f xs) at v ≡ map g xs
set-map f g [] at v d in_range here others = absurd (omega arith)
set-map f g (x ∷ xs) zero v d in_range here others =
    let first : g x ≡ v = here in
    rw first (ap (λ ns. v ∷ ns) (map-same f g xs d (λ j lt. others (suc j) (omega arith) (omega arith))))
set-map f g (x ∷ xs) (suc at) v d in_range here others =
    let first : g x ≡ f x = others 0 (omega arith) (omega arith) in
    rw first
    (ap (λ ns. f x ∷ ns) (set-map f g xs at v d (omega arith) here
    (λ j lt differs. others (suc j) (omega arith) (omega (arith, differs)))))

-- nothing from each is nothing in all
pub sum_by-nothing : {X : Type 0} (f : X → ℕ) (xs : List X) → All (λ x. f x ≡ 0) xs → sum_by f xs ≡ 0
sum_by-nothing f xs none = omega (arith, sum_by-le f 0 xs (λ j d lt. let h = none j d lt in omega arith))
