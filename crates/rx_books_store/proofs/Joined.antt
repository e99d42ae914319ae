-- The text of a list, item by item: what the items from one place to another put.
use Rattle.std.proofs.Common.{◌≡◌, ℕ, ◌+◌, ◌-◌, ◌≤◌, List, ◌++◌, length, take, drop, refl, sym, ap, ◌∙◌, arith, length-append}
use Rattle.std.specs.List.{flat_map, slice_range}
use Rattle.std.proofs.lemmas.Grind.{flat_map-append}
use Rattle.std.proofs.lemmas.List.{drop-drop, drop-take, drop_at, take-append-drop, take-take, take_at}

module _ {X A : Type 0} (line : X → List A) where
  abbrev joined : List X → List A
  joined xs = flat_map line xs

  -- where the line of an item begins
  abbrev begin : List X → ℕ → ℕ
  begin xs i = length (joined (take i xs))

  pub joined_split : (xs : List X) (i : ℕ) → joined xs ≡ joined (take i xs) ++ joined (drop i xs)
  joined_split xs i = ap joined (sym (take-append-drop i xs)) ∙ flat_map-append line (take i xs) (drop i xs)

  pub joined_before : (xs : List X) (i : ℕ) → take (begin xs i) (joined xs) ≡ joined (take i xs)
  joined_before xs i =
      ap (take (begin xs i)) (joined_split xs i) ∙ take_at (joined (take i xs)) (joined (drop i xs)) (begin xs i) refl

  pub joined_behind : (xs : List X) (i : ℕ) → drop (begin xs i) (joined xs) ≡ joined (drop i xs)
  joined_behind xs i =
      ap (drop (begin xs i)) (joined_split xs i) ∙ drop_at (joined (take i xs)) (joined (drop i xs)) (begin xs i) refl

  take_more_of : (xs : List X) (i n : ℕ) → take (i + n) xs ≡ take i xs ++ take n (drop i xs)
  take_more_of xs i n =
      let le : i ≤ i + n = omega arith in
      sym (take-append-drop i (take (i + n) xs))
      ∙ ap (λ (t : List X). t ++ drop i (take (i + n) xs)) (take-take i (i + n) xs le)
      ∙ ap (λ (t : List X). take i xs ++ t) (drop-take i n xs)

  -- a line begins after the lines before it
  pub begin_more : (xs : List X) (i n : ℕ) → begin xs (i + n) ≡ begin xs i + begin (drop i xs) n
  begin_more xs i n =
      ap (λ (t : List X). length (joined t)) (take_more_of xs i n)
      ∙ ap length (flat_map-append line (take i xs) (take n (drop i xs)))
      ∙ length-append (joined (take i xs)) (joined (take n (drop i xs)))

  pub begin_rises : (xs : List X) (i j : ℕ) → i ≤ j → begin xs i ≤ begin xs j
  begin_rises xs i j le =
      let e : i + (j - i) ≡ j = omega arith in
      omega (arith, begin_more xs i (j - i), ap (begin xs) e)

  pub begin_within : (xs : List X) (i : ℕ) → begin xs i ≤ length (joined xs)
  begin_within xs i =
      omega (arith, ap length (joined_split xs i), length-append (joined (take i xs)) (joined (drop i xs)))

  -- the items from one place to another put what stands between the starts of their lines
  pub joined_between : (xs : List X) (i j : ℕ) → i ≤ j
      → slice_range (joined xs) (begin xs i) (begin xs j) ≡ joined (take (j - i) (drop i xs))
  joined_between xs i j le =
      let e : i + (j - i) ≡ j = omega arith in
      let n : begin xs j - begin xs i ≡ begin (drop i xs) (j - i) =
      omega (arith, begin_more xs i (j - i), ap (begin xs) e) in
      ap (take (begin xs j - begin xs i)) (joined_behind xs i)
      ∙ ap (λ (m : ℕ). take m (joined (drop i xs))) n
      ∙ joined_before (drop i xs) (j - i)

  -- the items from one place to another, and on to a third
  pub joined_join : (xs : List X) (i j k : ℕ) → i ≤ j → j ≤ k
      → joined (take (k - i) (drop i xs)) ≡ joined (take (j - i) (drop i xs)) ++ joined (take (k - j) (drop j xs))
  joined_join xs i j k one two =
      let all : (j - i) + (k - j) ≡ k - i = omega arith in
      let there : i + (j - i) ≡ j = omega arith in
      ap (λ (n : ℕ). joined (take n (drop i xs))) (sym all)
      ∙ ap joined (take_more_of (drop i xs) (j - i) (k - j))
      ∙ flat_map-append line (take (j - i) (drop i xs)) (take (k - j) (drop (j - i) (drop i xs)))
      ∙ ap (λ (ys : List X). joined (take (j - i) (drop i xs)) ++ joined (take (k - j) ys))
      (drop-drop (j - i) i xs ∙ ap (λ (n : ℕ). drop n xs) there)
