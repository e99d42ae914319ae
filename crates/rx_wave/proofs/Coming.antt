-- The places of a shard after this many records.
use Rattle.std.proofs.Common.{◌≡◌, ℕ, zero, suc, ◌+◌, ◌-◌, ◌<◌, ◌++◌, Bool, true, false, List, [], ◌∷◌, if◌then◌else◌, filter, map}
use Rattle.std.proofs.Common.{append-nil, refl, sym, ap, ◌∙◌, arith}
use Rattle.std.specs.List.{range_with_len}
use Rattle.std.proofs.lemmas.List.FromFn.{filter_of_map_range_with_len_more}
use Rattle.rx_schedule.specs.Shards.{places_of}

-- those of the places after the first i of n that are chosen
abbrev pub later : (ℕ → Bool) → ℕ → ℕ → List ℕ
later chosen i n = filter chosen (range_with_len (i + 1) (n - i))

map_itself : (xs : List ℕ) → map (λ x. x) xs ≡ xs
map_itself [] = refl
map_itself (x ∷ xs) = ap (λ ys. x ∷ ys) (map_itself xs)

-- the chosen places of a range of one place more
range_more : (chosen : ℕ → Bool) (n : ℕ) → filter chosen (range_with_len 1 (suc n))
    ≡ filter chosen (range_with_len 1 n) ++ (if chosen (suc n) then suc n ∷ [] else [])
range_more chosen n =
    let e : suc n ≡ n + 1 = omega arith in
    ap (λ m. filter chosen (range_with_len 1 m)) e
    ∙ ap (filter chosen) (sym (map_itself (range_with_len 1 (n + 1))))
    ∙ filter_of_map_range_with_len_more chosen (λ x. x) 1 n (suc n) (omega arith)
    ∙ ap (λ xs. filter chosen xs ++ (if chosen (suc n) then suc n ∷ [] else [])) (map_itself (range_with_len 1 n))

-- a list with one item more or none
with_last : (b : Bool) (xs : List ℕ) (x : ℕ) → (if b then xs ++ x ∷ [] else xs) ≡ xs ++ (if b then x ∷ [] else [])
with_last true xs x = refl
with_last false xs x = sym (append-nil xs)

all_chosen : (chosen : ℕ → Bool) (n : ℕ) → places_of chosen n ≡ filter chosen (range_with_len 1 n)
all_chosen chosen zero = refl
all_chosen chosen (suc n) =
    with_last (chosen (suc n)) (places_of chosen n) (suc n)
    ∙ ap (λ ps. ps ++ (if chosen (suc n) then suc n ∷ [] else [])) (all_chosen chosen n) ∙ sym (range_more chosen n)

-- all places of a shard come after none
pub later_first : (chosen : ℕ → Bool) (n : ℕ) → places_of chosen n ≡ later chosen 0 n
later_first chosen n =
    let e : n ≡ n - 0 = omega arith in
    all_chosen chosen n ∙ ap (λ m. filter chosen (range_with_len 1 m)) e

-- the next place is the first of those that are later, where it is chosen
pub later_chosen : (chosen : ℕ → Bool) (i n : ℕ) → i < n → chosen (i + 1) ≡ true
    → later chosen i n ≡ (i + 1) ∷ later chosen (i + 1) n
later_chosen chosen i n lt is =
    let e : n - i ≡ suc (n - (i + 1)) = omega arith in
    ap (λ m. filter chosen (range_with_len (i + 1) m)) e ∙ rw is refl

pub later_other : (chosen : ℕ → Bool) (i n : ℕ) → i < n → chosen (i + 1) ≡ false
    → later chosen i n ≡ later chosen (i + 1) n
later_other chosen i n lt is =
    let e : n - i ≡ suc (n - (i + 1)) = omega arith in
    ap (λ m. filter chosen (range_with_len (i + 1) m)) e ∙ rw is refl
