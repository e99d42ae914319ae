-- From the places that a comparison of vectors marks to the bytes in front of the first of them.
use Rattle.std.proofs.Common.{◌≡◌, ℕ, ◌+◌, ◌%◌, ◌^◌, ◌<◌, ◌≤◌, Bool, true, false, not, ◌||◌, eqb, List, [], ◌∷◌, map, length, get_or, take}
use Rattle.std.proofs.Common.{Fits, w8, refl, sym, ap, ap₂, ◌∙◌, subst, arith, length-take}
use Rattle.std.specs.List.{list_all, prefix_len}
use Rattle.std.proofs.lemmas.Bool.{agree_below, agree_below_at, not-true}
use Rattle.std.proofs.lemmas.List.{length-map, get_or-take}
use Rattle.std.proofs.lemmas.List.Elements.{All-from_get_or}
use Rattle.std.proofs.lemmas.List.Sums.{list_all-from_AllPass, prefix_len-le-length, prefix_len_passes}
use Rattle.std.proofs.lemmas.Simd.{map-map, mask_l-mod, length-chunk, get_or-chunk, trailing_mask_l}
use lib.Count.{count_trailing_zeros}
use lib.Lanes.{chunk, zip2, mask_l, top}

zip2-map : (h : ℕ → ℕ → ℕ) (f g : ℕ → ℕ) (xs : List ℕ) → zip2 h (map f xs) (map g xs) ≡ map (λ x. h (f x) (g x)) xs
zip2-map h f g [] = refl
zip2-map h f g (x ∷ xs) = ap (λ r. h (f x) (g x) ∷ r) (zip2-map h f g xs)

-- what is made of two vectors lane by lane, which were made of one
pub joined : (h : ℕ → ℕ → ℕ) (f g : ℕ → ℕ) (v : List ℕ) {a b : List ℕ} → a ≡ map f v → b ≡ map g v
    → zip2 h a b ≡ map (λ x. h (f x) (g x)) v
joined h f g v p q = ap₂ (zip2 h) p q ∙ zip2-map h f g v

-- the lanes in front of the first that is marked hold bytes that pass q, where a byte that isn't marked passes q
pub passed : (q : ℕ → Bool) (d : List ℕ) (n : ℕ) (z : List ℕ) → n ≤ length d → n ≤ 64 → ((k : ℕ) → Fits w8 (get_or d k 0))
    → 0 < mask_l (map (top 7) z) % 2 ^ 64 → (f : ℕ → ℕ) → z ≡ map f (chunk 0 n d)
    → agree_below (λ x. top 7 (f x) || q x) (λ _. true) 256 ≡ true
    → list_all q (take (count_trailing_zeros 64 (mask_l (map (top 7) z) % 2 ^ 64)) d) ≡ true
passed q d n z room few fits some f lanes all =
    let v = chunk 0 n d in
    let marked : ℕ → Bool = λ x. top 7 (f x) in
    let r = count_trailing_zeros 64 (mask_l (map (top 7) z) % 2 ^ 64) in
    let long = length-chunk 0 n d (omega arith) in
    let mask : mask_l (map (top 7) z) % 2 ^ 64 ≡ mask_l (map marked v) =
    ap (λ l. mask_l l % 2 ^ 64) (ap (map (top 7)) lanes ∙ map-map (top 7) f v)
    ∙ mask_l-mod (map marked v) 64 (omega (arith, length-map v marked, long)) in
    let counted : r ≡ prefix_len (λ x. not (marked x)) v =
    ap (count_trailing_zeros 64) mask ∙ trailing_mask_l marked 64 v (omega (arith, long)) (omega (arith, some, mask)) in
    let within = prefix_len-le-length (λ x. not (marked x)) v in
    list_all-from_AllPass q (take r d) (All-from_get_or (λ x. q x ≡ true) (take r d) 0 (λ k inside.
    let short : k < r = omega (arith, length-take r d) in
    let same : 0 + k ≡ k = omega arith in
    let at = get_or-chunk 0 n d k 0 (omega (arith, counted, long)) ∙ ap (λ j. get_or d j 0) same in
    let clear : marked (get_or d k 0) ≡ false =
    subst (λ x. marked x ≡ false) at
    (not-true _ (prefix_len_passes (λ x. not (marked x)) v k 0 (omega (arith, counted)))) in
    subst (λ x. q x ≡ true) (sym (get_or-take r d k 0 short))
    (sym (ap (λ b. b || q (get_or d k 0)) clear) ∙ agree_below_at (λ x. marked x || q x) (λ _. true) 256 (get_or d k 0) all (fits k).fits)))
