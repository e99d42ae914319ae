-- Where a text is cut: at its first bar, and at each line feed.
use Rattle.std.proofs.Common.{◌≡◌, ℕ, ◌+◌, ◌-◌, ◌<◌, ◌≤◌, true, false, eqb, List, [], ◌∷◌, ◌++◌, length, get_or, take}
use Rattle.std.proofs.Common.{drop, Option, Some, None, refl, sym, ap, ◌∙◌, arith, drop-cons, add-one, inl, inr}
use Rattle.std.specs.List.{All}
use Rattle.std.proofs.lemmas.Bool.{cases_Bool, false_from_ne_true, eqb-true}
use Rattle.std.proofs.lemmas.Grind.{common_steps}
use Rattle.std.proofs.lemmas.List.{take-append-drop, length-take, length-drop, take_all}
use Rattle.std.proofs.lemmas.List.Elements.{All-from_get_or, All-head, All-tail}
use Rattle.std.proofs.lemmas.List.Splits.{slice_split_none, slice_split_at}
use Rattle.rx_text.specs.Options.{◌>>=◌}
use Rattle.rx_books_text.specs.LineReading.{split}
use Rattle.rx_books_text.specs.TextReading.{lines}

-- ---- where a byte is found

-- no byte of the bytes is this one
abbrev pub Without : ℕ → List ℕ → Type 0
Without c bytes = All (λ b. eqb b c ≡ false) bytes

abbrev pub NoneBefore : ℕ → ℕ → List ℕ → Type 0
NoneBefore c at bytes = (k : ℕ) → 0 ≤ k → k < at → eqb (get_or bytes k 0) c ≡ true → ⊥

pub none_passes : (c : ℕ) (bytes : List ℕ) → NoneBefore c (length bytes) bytes → Without c bytes
none_passes c bytes none = All-from_get_or (λ b. eqb b c ≡ false) bytes 0 (λ k lt. false_from_ne_true _ (none k (omega arith) lt))

front_without : (c : ℕ) (bytes : List ℕ) (at : ℕ) → at < length bytes → NoneBefore c at bytes → Without c (take at bytes)
front_without c bytes at lt none = none_passes c (take at bytes) (λ k low below.
    let k_lt : k < at = omega (arith, below, length-take at bytes) in
    let same : get_or (take at bytes) k 0 ≡ get_or bytes k 0 = grind (arith, common_steps) in
    rw same (none k (omega arith) k_lt))

-- the bytes are those before the place, the byte there, and those after it
whole_at : (c : ℕ) (bytes : List ℕ) (at : ℕ) → at < length bytes → eqb (get_or bytes at 0) c ≡ true
    → bytes ≡ take at bytes ++ c ∷ drop (at + 1) bytes
whole_at c bytes at lt here =
    let is : get_or bytes at 0 ≡ c = eqb-true (get_or bytes at 0) c here in
    let whole : take at bytes ++ get_or bytes at 0 ∷ drop (at + 1) bytes ≡ bytes =
    rw (add-one, ← drop-cons bytes at 0 lt) (take-append-drop at bytes) in
    sym whole ∙ ap (λ (b : ℕ). take at bytes ++ b ∷ drop (at + 1) bytes) is

-- a slice to the end is what follows
pub to_end : (at : ℕ) (bytes : List ℕ) → take (length bytes - at) (drop at bytes) ≡ drop at bytes
to_end at bytes = take_all (length bytes - at) (drop at bytes) (omega (arith, length-drop at bytes))

-- ---- the first bar

split_nowhere : (bytes : List ℕ) → Without 124 bytes → split bytes ≡ None
unfolding split
split_nowhere [] none = refl
split_nowhere (b ∷ bytes) none =
    let P : ℕ → Type 0 = λ b. eqb b 124 ≡ false in
    rw (All-head P b bytes none, split_nowhere bytes (All-tail P b bytes none)) refl

pub split_over : (front rest : List ℕ) → Without 124 front → split (front ++ 124 ∷ rest) ≡ Some (front, rest)
unfolding split
split_over [] rest none = refl
split_over (b ∷ front) rest none =
    let P : ℕ → Type 0 = λ b. eqb b 124 ≡ false in
    rw (All-head P b front none, split_over front rest (All-tail P b front none)) refl

pub split_none : (bytes : List ℕ) → NoneBefore 124 (length bytes) bytes → split bytes ≡ None
split_none bytes none = split_nowhere bytes (none_passes 124 bytes none)

pub split_at : (bytes : List ℕ) (at : ℕ) → at < length bytes → NoneBefore 124 at bytes → eqb (get_or bytes at 0) 124 ≡ true
    → split bytes ≡ Some (take at bytes, drop (at + 1) bytes)
split_at bytes at lt none here =
    ap split (whole_at 124 bytes at lt here) ∙ split_over (take at bytes) (drop (at + 1) bytes) (front_without 124 bytes at lt none)

-- ---- line feeds

pub lines_none : (bytes : List ℕ) → NoneBefore 10 (length bytes) bytes → lines bytes ≡ bytes ∷ []
lines_none bytes none = slice_split_none (λ b. eqb b 10) bytes (none_passes 10 bytes none)

pub lines_over : (front rest : List ℕ) → Without 10 front → lines (front ++ 10 ∷ rest) ≡ front ∷ lines rest
lines_over front rest none = slice_split_at (λ b. eqb b 10) front 10 rest none refl

pub lines_at : (bytes : List ℕ) (at : ℕ) → at < length bytes → NoneBefore 10 at bytes → eqb (get_or bytes at 0) 10 ≡ true
    → lines bytes ≡ take at bytes ∷ lines (drop (at + 1) bytes)
lines_at bytes at lt none here =
    ap lines (whole_at 10 bytes at lt here) ∙ lines_over (take at bytes) (drop (at + 1) bytes) (front_without 10 bytes at lt none)

abbrev pair : List ℕ × List ℕ → Option (List ℕ × List ℕ)
pair y = Some y

pub split_takes : (bs : List ℕ) (x : List ℕ × List ℕ) → split bs ≡ Some x → bs ≡ x.0 ++ 124 ∷ x.1
unfolding split
split_takes [] x e = absurd cc
split_takes (b ∷ bs) x e = elim (cases_Bool (eqb b 124)) [
  | inl bar ↦
      let is : ([], bs) ≡ x = pair_same ([], bs) x (rw bar at e) in
      rw (eqb-true b 124 bar, ← is) refl
  | inr other ↦
      let more = later (split bs) b x (rw other at e) in
      rw (← more.2) (ap (λ (t : List ℕ). b ∷ t) (split_takes bs more.0 more.1))
]
  where
    pair_same : (y z : List ℕ × List ℕ) → pair y ≡ pair z → y ≡ z
    pair_same y z e = cc

    later : (o : Option (List ℕ × List ℕ)) (b : ℕ) (x : List ℕ × List ℕ) → (o >>= λ y. Some (b ∷ y.0, y.1)) ≡ Some x
        → (y : List ℕ × List ℕ) × (o ≡ Some y) × ((b ∷ y.0, y.1) ≡ x)
    later None b x e = absurd cc
    later (Some y) b x e = (y, refl, pair_same (b ∷ y.0, y.1) x e)
