-- What the marks of a byte say, and how they move on.
use Rattle.std.proofs.Common.{◌≡◌, ℕ, zero, suc, ◌+◌, ◌-◌, ◌*◌, ◌/◌, ◌^◌, min, ◌<◌, ◌≤◌, ◌≢◌, Bool, true, false}
use Rattle.std.proofs.Common.{not, cond, eqb, List, [], ◌∷◌, length, get_or, take, drop, map, refl, sym, ap, ◌∙◌}
use Rattle.std.proofs.Common.{arith, count_by, shr-shr, w64, ⊎_elim, true≢false, subst, Option, Some}
use Rattle.std.specs.Prelude.{count_ones}
use Rattle.std.specs.Int.{trailing_zeros}
use Rattle.std.proofs.Math.Nat.{zero-div, mul_assoc, two-pow-succ, pow-le-pow_right}
use Rattle.std.specs.List.{prefix_len}
use Rattle.std.specs.Simd.Lanes.{mask_l}
use Rattle.std.proofs.lemmas.Bool.{not-true, not-false, cases_lt}
use Rattle.std.proofs.lemmas.List.{take_all, take_min, length-take, length-drop, length-map, drop-drop, drop-take, get_or-take, get_or-drop}
use Rattle.std.proofs.lemmas.List.Sums.{prefix_len_passes, prefix_len_stops, sum_by-take-drop, count_by-le-length}
use Rattle.std.proofs.lemmas.Simd.{ones-mask_l, trailing_mask_l, leading_from_mask_l, mask_l-lt}
use Rattle.std.specs.Borrow.{Bor}
use Rattle.rx_d0_request.specs.Marks.{marks_of, AreMarks, AreMarksLeft}

-- ---- the marks of a text, from the last chunk to the first

-- so few marks make so small a number
pub marks_below : (byte k : ℕ) (xs : List ℕ) → length xs ≤ k → marks_of byte xs < 2 ^ k
marks_below byte k xs le =
    let few : length (map (λ b. eqb b byte) xs) ≤ k = omega (arith, le, length-map xs (λ b. eqb b byte)) in
    omega (arith, mask_l-lt (map (λ b. eqb b byte) xs), pow-le-pow_right {n = 2} (omega arith) few)

scaled : (k d : ℕ) → 2 ^ suc k * d ≡ 2 * (2 ^ k * d)
scaled k d =
    let twice : 2 ^ suc k ≡ 2 * 2 ^ k = omega (arith, two-pow-succ k) in
    ap (λ n. n * d) twice ∙ mul_assoc 2 (2 ^ k) d

cut_one : (c m t k d : ℕ) → m ≡ t + 2 ^ k * d → c + 2 * m ≡ c + 2 * t + 2 ^ suc k * d
cut_one c m t k d e = omega (arith, e, scaled k d)

-- the marks of the first k bytes, and of those after them
cut_marks : (byte k : ℕ) (xs : List ℕ) → k ≤ length xs → marks_of byte xs ≡ marks_of byte (take k xs) + 2 ^ k * marks_of byte (drop k xs)
cut_marks byte zero xs le = omega arith
cut_marks byte (suc k) [] le = absurd (omega arith)
cut_marks byte (suc k) (x ∷ xs) le =
    cut_one (cond {A = ℕ} (eqb x byte) 1 0) (marks_of byte xs) (marks_of byte (take k xs)) k (marks_of byte (drop k xs))
    (cut_marks byte k xs (omega arith))

-- the marks after a place are few
pub marks_fit : (byte at k : ℕ) (text : List ℕ) → length text ≤ k + at → marks_of byte (drop at text) < 2 ^ k
marks_fit byte at k text le = marks_below byte k (drop at text) (omega (arith, le, length-drop at text))

-- one chunk more in front
pub marks_before : (byte k at : ℕ) (text : List ℕ) → k ≤ at → at ≤ length text
    → 2 ^ k * marks_of byte (drop at text) + marks_of byte (take k (drop (at - k) text)) ≡ marks_of byte (drop (at - k) text)
marks_before byte k at text le within =
    let on : at - k + k ≡ at = omega arith in
    let behind : drop k (drop (at - k) text) ≡ drop at text = drop-drop k (at - k) text ∙ ap (λ n. drop n text) on in
    let cut = cut_marks byte k (drop (at - k) text) (omega (arith, length-drop (at - k) text)) in
    omega (arith, cut, ap (λ (l : List ℕ). 2 ^ k * marks_of byte l) behind)

-- the marks of 64 bytes are counted
pub count_marks : (byte count marks : ℕ) (rest : List ℕ) → marks ≡ marks_of byte (take 64 rest)
    → count + count_by (λ b. eqb b byte) rest ≡ count + count_ones marks + count_by (λ b. eqb b byte) (drop 64 rest)
count_marks byte count marks rest e =
    let some : count_ones marks ≡ count_by (λ b. eqb b byte) (take 64 rest) = ap count_ones e
    ∙ ones-mask_l (λ b. eqb b byte) (take 64 rest) in
    omega (arith, some, sum_by-take-drop (λ b. cond {A = ℕ} (eqb b byte) 1 0) rest 64)

-- a number has as many marks as there are bytes for them, at most
pub marks_few : (byte marks : ℕ) (rest : List ℕ) → marks ≡ marks_of byte (take 64 rest)
    → (count_ones marks ≤ 64) × (count_ones marks ≤ length rest)
marks_few byte marks rest e =
    let some : count_ones marks ≡ count_by (λ b. eqb b byte) (take 64 rest) = ap count_ones e
    ∙ ones-mask_l (λ b. eqb b byte) (take 64 rest) in
    let few : count_ones marks ≤ length (take 64 rest) = omega (arith, some, count_by-le-length (λ b. eqb b byte) (take 64 rest)) in
    (omega (arith, few, length-take 64 rest), omega (arith, few, length-take 64 rest))

pub count_last : (byte marks : ℕ) (rest : List ℕ) → length rest < 64 → marks ≡ marks_of byte (take 64 rest)
    → count_ones marks ≡ count_by (λ b. eqb b byte) rest
count_last byte marks rest lt e =
    ap count_ones e ∙ (ones-mask_l (λ b. eqb b byte) (take 64 rest) ∙ ap (count_by (λ b. eqb b byte)) (take_all 64 rest (omega arith)))

-- ---- the first mark

-- the byte stands at this place among the seen ones, and at none before
pub record IsFirstMark (separator at seen : ℕ) (text : List ℕ) : Type 0 where
  pub below : at < seen
  pub none : (k : ℕ) → k < at → eqb (get_or text k 0) separator ≡ false
  pub here : eqb (get_or text at 0) separator ≡ true

one_stops : (b : Bool) (n m l : ℕ) → 0 < cond b 1 0 + 2 * n → (0 < n → m < l) → cond (not b) (1 + m) 0 < suc l
one_stops true n m l h f = omega arith
one_stops false n m l h f = let lt : m < l = f (omega arith) in omega arith

some_stops : (p : ℕ → Bool) (xs : List ℕ) → 0 < mask_l (map p xs) → prefix_len (λ x. not (p x)) xs < length xs
some_stops p [] h = absurd (omega arith)
some_stops p (x ∷ xs) h = one_stops (p x) (mask_l (map p xs)) (prefix_len (λ y. not (p y)) xs) (length xs) h (some_stops p xs)

pub first_mark : (separator marks seen at : ℕ) (text : List ℕ) → AreMarks separator marks seen text → marks ≢ 0
    → at ≡ trailing_zeros w64 marks → IsFirstMark separator at seen text
first_mark separator marks seen at text h some e =
    let p = λ (b : ℕ). eqb b separator in
    let xs = take seen text in
    let cut : length xs ≡ seen = omega (arith, length-take seen text, h.within) in
    let more : 0 < mask_l (map p xs) = omega (arith, some, h.first) in
    let is : at ≡ prefix_len (λ x. not (p x)) xs = e ∙ (ap (trailing_zeros w64) h.first
    ∙ trailing_mask_l p 64 xs (omega (arith, cut, h.few)) more) in
    let lt : at < seen = omega (arith, is, cut, some_stops p xs more) in
    record {
      below = lt;
      none = λ k below.
          ap p (sym (get_or-take seen text k 0 (omega arith))) ∙ not-true _ (prefix_len_passes (λ x. not (p x)) xs k 0 (omega (arith, is)));
      here =
          ap p (sym (get_or-take seen text at 0 lt)) ∙ (ap (λ k. p (get_or xs k 0)) is
          ∙ not-false _ (prefix_len_stops (λ x. not (p x)) xs 0 (some_stops p xs more)));
    }

-- no mark at all
pub no_mark : (separator seen k : ℕ) (text : List ℕ) → seen ≤ length text → marks_of separator (take seen text) ≡ 0 → k < seen
    → eqb (get_or text k 0) separator ≡ false
no_mark separator seen k text within e lt =
    let p = λ (b : ℕ). eqb b separator in
    let xs = take seen text in
    let all : prefix_len (λ x. not (p x)) xs ≡ length xs = leading_from_mask_l p xs e in
    ap p (sym (get_or-take seen text k 0 lt)) ∙ not-true _ (prefix_len_passes (λ x. not (p x)) xs k 0
    (omega (arith, all, length-take seen text)))

-- ---- the marks of what is after it

lowest : (b : Bool) (n : ℕ) → (cond b 1 0 + 2 * n) / 2 ≡ n
lowest true n = omega arith
lowest false n = omega arith

halved : (m : Bool) (ms : List Bool) (k : ℕ) → mask_l (m ∷ ms) / 2 ^ suc k ≡ mask_l ms / 2 ^ k
halved m ms k =
    let step : 1 + k ≡ suc k = omega arith in
    ap (λ n. mask_l (m ∷ ms) / 2 ^ n) (sym step) ∙ (sym (shr-shr (mask_l (m ∷ ms)) 1 k) ∙ ap (λ n. n / 2 ^ k) (lowest m (mask_l ms)))

dropped : (p : ℕ → Bool) (k : ℕ) (xs : List ℕ) → mask_l (map p xs) / 2 ^ k ≡ mask_l (map p (drop k xs))
dropped p zero xs = omega arith
dropped p (suc k) [] = zero-div (2 ^ suc k)
dropped p (suc k) (x ∷ xs) = halved (p x) (map p xs) k ∙ dropped p k xs

-- what is left over after whole chunks, by the last 16 bytes
pub marks_over : (byte left : ℕ) (text : List ℕ) → left ≤ 16 → 16 ≤ length text
    → marks_of byte (take 16 (drop (length text - 16) text)) / 2 ^ (16 - left) ≡ marks_of byte (drop (length text - left) text)
marks_over byte left text few some =
    let last = drop (length text - 16) text in
    let on : length text - 16 + (16 - left) ≡ length text - left = omega arith in
    ap (λ (l : List ℕ). marks_of byte l / 2 ^ (16 - left)) (take_all 16 last (omega (arith, length-drop (length text - 16) text)))
    ∙ (dropped (λ b. eqb b byte) (16 - left) last
    ∙ ap (marks_of byte) (drop-drop (16 - left) (length text - 16) text ∙ ap (λ n. drop n text) on))

pub marks_behind : (separator marks seen at : ℕ) (text : List ℕ) → AreMarks separator marks seen text → at < seen
    → AreMarks separator (marks / 2 ^ at / 2 ^ 1) (seen - (at + 1)) (drop (at + 1) text)
marks_behind separator marks seen at text h lt =
    let p = λ (b : ℕ). eqb b separator in
    let both : at + 1 + (seen - (at + 1)) ≡ seen = omega arith in
    let behind : drop (at + 1) (take seen text) ≡ take (seen - (at + 1)) (drop (at + 1) text) = ap (λ n. drop (at + 1) (take n text))
    (sym both) ∙ drop-take (at + 1) (seen - (at + 1)) text in
    record {
      few = omega (arith, h.few);
      within = omega (arith, h.within, length-drop (at + 1) text);
      first =
          ap (λ m. m / 2 ^ at / 2 ^ 1) h.first ∙ (shr-shr (marks_of separator (take seen text)) at 1
          ∙ (dropped p (at + 1) (take seen text) ∙ ap (λ (l : List ℕ). mask_l (map p l)) behind));
    }

-- the marks of a text that nothing was taken from
pub marks_at_first : (separator marks : ℕ) (text : List ℕ) → marks ≡ marks_of separator (take 64 text)
    → AreMarks separator marks (min 64 (length text)) text
marks_at_first separator marks text e = record {
  few = omega arith;
  within = omega arith;
  first = e ∙ ap (marks_of separator) (sym (take_min 64 text));
}

-- ---- the first separator after the bytes that were seen

-- nothing is found
pub none_behind : (separator seen : ℕ) (text : List ℕ) → seen ≤ length text → marks_of separator (take seen text) ≡ 0
    → ((k : ℕ) → 0 ≤ k → k < length (drop seen text) → eqb (get_or (drop seen text) k 0) separator ≡ true → ⊥)
    → (k : ℕ) → 0 ≤ k → k < length text → eqb (get_or text k 0) separator ≡ true → ⊥
none_behind separator seen text within e none k low high is =
    ⊎_elim (λ lt. true≢false (sym is ∙ no_mark separator seen k text within e lt))
    (λ ge.
    let on : seen + (k - seen) ≡ k = omega arith in
    none (k - seen) (omega arith) (omega (arith, length-drop seen text))
    (ap (λ (b : ℕ). eqb b separator) (get_or-drop seen text (k - seen) 0 ∙ ap (λ (j : ℕ). get_or text j 0) on) ∙ is))
    (cases_lt k seen)

-- nothing is found before the place that is found
pub none_before : (separator seen at : ℕ) (text : List ℕ) → seen ≤ length text → marks_of separator (take seen text) ≡ 0
    → ((k : ℕ) → 0 ≤ k → k < at → eqb (get_or (drop seen text) k 0) separator ≡ true → ⊥)
    → (k : ℕ) → 0 ≤ k → k < seen + at → eqb (get_or text k 0) separator ≡ true → ⊥
none_before separator seen at text within e none k low high is =
    ⊎_elim (λ lt. true≢false (sym is ∙ no_mark separator seen k text within e lt))
    (λ ge.
    let on : seen + (k - seen) ≡ k = omega arith in
    none (k - seen) (omega arith) (omega arith)
    (ap (λ (b : ℕ). eqb b separator) (get_or-drop seen text (k - seen) 0 ∙ ap (λ (j : ℕ). get_or text j 0) on) ∙ is))
    (cases_lt k seen)

-- the marks of the text that is left
pub left_marks : (separator marks seen : ℕ) (rest : Option (Bor (List ℕ))) (text : Bor (List ℕ)) → AreMarksLeft separator marks seen rest
    → rest ≡ Some text → AreMarks separator marks seen text.now
left_marks separator marks seen rest text h e = subst (λ (r : Option (Bor (List ℕ))). AreMarksLeft separator marks seen r) e h

pub left_first : (separator marks seen : ℕ) (rest : Option (Bor (List ℕ))) (text : Bor (List ℕ)) → AreMarksLeft separator marks seen rest
    → rest ≡ Some text → marks ≢ 0
    → IsFirstMark separator (trailing_zeros w64 marks) seen text.now
left_first separator marks seen rest text h e some =
    first_mark separator marks seen (trailing_zeros w64 marks) text.now (left_marks separator marks seen rest text h e) some refl
