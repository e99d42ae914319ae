-- Bytes compared as one number, and texts by the zeros that stand after them.
use Rattle.std.proofs.Common.{◌≡◌, ℕ, zero, suc, ◌+◌, ◌-◌, ◌*◌, ◌<◌, ◌≤◌, true, false, leb, lit<, List, [], ◌∷◌, ◌++◌, length, get_or}
use Rattle.std.proofs.Common.{take, drop, replicate, take-append-drop, length-take}
use Rattle.std.proofs.Common.{refl, sym, ap, ◌∙◌, inl, inr, arith}
use Rattle.std.specs.Prelude.{◌⊎◌, nat_eq}
use Rattle.std.specs.Int.{from_be_bytes, w32, w64}
use Rattle.std.specs.Ordering.{is_eq, nat_cmp, ordering_then}
use Rattle.std.specs.Cmp.{nat_cmp_is}
use Rattle.std.specs.Cmp.Lexicographic.{pointwise, slice_cmp}
use Rattle.std.specs.List.{list_all}
use Rattle.std.specs.declared.cmp.Ordering.{Ordering}
use Rattle.std.specs.declared.cmp.Ordering.TheVariants.{Less, Equal, Greater}
use Rattle.std.proofs.lemmas.List.{get_or-drop, get_or-take, get_or_past}
use Rattle.std.proofs.lemmas.Bool.{cases_lt, and_parts, leb-true}
use Rattle.std.proofs.lemmas.Map.Text.{is_eq-slice_cmp}
use Rattle.rx_text.specs.Bytes.{is_printable}
use Rattle.rx_fields.specs.Text.{IsPadded}
use Rattle.rx_fields.proofs.IdLaws.{id_printable}

-- ---- numbers

-- a number, and the bytes after it, as one number
abbrev pub number_from : ℕ → List ℕ → ℕ
number_from p [] = p
number_from p (x ∷ xs) = number_from (p * 256 + x) xs

-- each element is a byte
abbrev pub AreBytes : List ℕ → Type 0
AreBytes xs = (i : ℕ) → get_or xs i 0 < 256

AreBytes-tail : (x : ℕ) (xs : List ℕ) → AreBytes (x ∷ xs) → AreBytes xs
AreBytes-tail x xs b = λ i. b (suc i)

pub AreBytes-drop : (n : ℕ) (xs : List ℕ) → AreBytes xs → AreBytes (drop n xs)
AreBytes-drop n xs b = λ i. rw (get_or-drop n xs i 0) (b (n + i))

AreBytes-take : (n : ℕ) (xs : List ℕ) → AreBytes xs → AreBytes (take n xs)
AreBytes-take n xs b = λ i. elim (cases_lt i n) [
  | inl in_range ↦ rw (get_or-take n xs i 0 in_range) (b i)
  | inr past ↦ rw (get_or_past (take n xs) i 0 (omega (arith, length-take n xs))) (lit< tt)
]

cases_order : (m n : ℕ) → (m < n) ⊎ (m ≡ n) ⊎ (n < m)
cases_order m n = elim (cases_lt m n) [
  | inl less ↦ inl less
  | inr more ↦ elim (cases_lt n m) [ inl below ↦ inr (inr below) | inr same ↦ inr (inl (omega arith)) ]
]

then_assoc : (a b c : Ordering) → ordering_then (ordering_then a b) c ≡ ordering_then a (ordering_then b c)
then_assoc Less b c = refl
then_assoc Equal b c = refl
then_assoc Greater b c = refl

-- one byte more on both sides decides where the numbers so far are equal
byte_more : (p q x y : ℕ) → x < 256 → y < 256
    → nat_cmp (p * 256 + x) (q * 256 + y) ≡ ordering_then (nat_cmp p q) (nat_cmp x y)
byte_more p q x y hx hy = elim (cases_order p q) [
  | inl less ↦
      let before : Less ≡ nat_cmp p q = nat_cmp_is p q Less less in
      rw (← before) (sym (nat_cmp_is (p * 256 + x) (q * 256 + y) Less (omega arith)))
  | inr (inl same) ↦
      let tied : Equal ≡ nat_cmp p q = nat_cmp_is p q Equal same in
      rw (← tied) (elim (cases_order x y) [
        | inl less ↦
            sym (nat_cmp_is (p * 256 + x) (q * 256 + y) Less (omega arith)) ∙ nat_cmp_is x y Less less
        | inr (inl both) ↦
            sym (nat_cmp_is (p * 256 + x) (q * 256 + y) Equal (omega arith)) ∙ nat_cmp_is x y Equal both
        | inr (inr more) ↦
            sym (nat_cmp_is (p * 256 + x) (q * 256 + y) Greater (omega arith)) ∙ nat_cmp_is x y Greater more
      ])
  | inr (inr more) ↦
      let behind : Greater ≡ nat_cmp p q = nat_cmp_is p q Greater more in
      rw (← behind) (sym (nat_cmp_is (p * 256 + x) (q * 256 + y) Greater (omega arith)))
]

-- as many bytes after two numbers
numbers_order : (xs ys : List ℕ) (p q : ℕ) → length xs ≡ length ys → AreBytes xs → AreBytes ys
    → nat_cmp (number_from p xs) (number_from q ys) ≡ ordering_then (nat_cmp p q) (slice_cmp nat_cmp xs ys)
numbers_order [] [] p q l bx by = elim (nat_cmp p q) as (λ o. o ≡ ordering_then o Equal) [ Less ↦ refl | Equal ↦ refl | Greater ↦ refl ]
numbers_order [] (y ∷ ys) p q l bx by = absurd (omega arith)
numbers_order (x ∷ xs) [] p q l bx by = absurd (omega arith)
numbers_order (x ∷ xs) (y ∷ ys) p q l bx by =
    numbers_order xs ys (p * 256 + x) (q * 256 + y) (omega arith) (AreBytes-tail x xs bx) (AreBytes-tail y ys by)
    ∙ ap (λ o. ordering_then o (slice_cmp nat_cmp xs ys)) (byte_more p q x y (bx 0) (by 0))
    ∙ then_assoc (nat_cmp p q) (nat_cmp x y) (slice_cmp nat_cmp xs ys)

-- texts of one length are in the order of their numbers
pub number_order : (xs ys : List ℕ) → length xs ≡ length ys → AreBytes xs → AreBytes ys
    → nat_cmp (number_from 0 xs) (number_from 0 ys) ≡ slice_cmp nat_cmp xs ys
number_order xs ys l bx by = numbers_order xs ys 0 0 l bx by

-- a word of eight bytes is their number
pub word_number : (xs : List ℕ) → length xs ≡ 8 → from_be_bytes w64 xs ≡ number_from 0 xs
word_number [] l = absurd (omega arith)
word_number (a ∷ []) l = absurd (omega arith)
word_number (a ∷ b ∷ []) l = absurd (omega arith)
word_number (a ∷ b ∷ c ∷ []) l = absurd (omega arith)
word_number (a ∷ b ∷ c ∷ d ∷ []) l = absurd (omega arith)
word_number (a ∷ b ∷ c ∷ d ∷ e ∷ []) l = absurd (omega arith)
word_number (a ∷ b ∷ c ∷ d ∷ e ∷ f ∷ []) l = absurd (omega arith)
word_number (a ∷ b ∷ c ∷ d ∷ e ∷ f ∷ g ∷ []) l = absurd (omega arith)
word_number (a ∷ b ∷ c ∷ d ∷ e ∷ f ∷ g ∷ h ∷ []) l = omega arith
word_number (a ∷ b ∷ c ∷ d ∷ e ∷ f ∷ g ∷ h ∷ i ∷ xs) l = absurd (omega arith)

-- half a word of four bytes is their number
half_number : (xs : List ℕ) → length xs ≡ 4 → from_be_bytes w32 xs ≡ number_from 0 xs
half_number [] l = absurd (omega arith)
half_number (a ∷ []) l = absurd (omega arith)
half_number (a ∷ b ∷ []) l = absurd (omega arith)
half_number (a ∷ b ∷ c ∷ []) l = absurd (omega arith)
half_number (a ∷ b ∷ c ∷ d ∷ []) l = omega arith
half_number (a ∷ b ∷ c ∷ d ∷ e ∷ xs) l = absurd (omega arith)

-- ---- parts

-- where the fronts are as long, the rest decides only where the fronts are equal
slice_cmp-append : (xs ys front back : List ℕ) → length xs ≡ length ys
    → slice_cmp nat_cmp (xs ++ front) (ys ++ back) ≡ ordering_then (slice_cmp nat_cmp xs ys) (slice_cmp nat_cmp front back)
slice_cmp-append [] [] front back l = refl
slice_cmp-append [] (y ∷ ys) front back l = absurd (omega arith)
slice_cmp-append (x ∷ xs) [] front back l = absurd (omega arith)
slice_cmp-append (x ∷ xs) (y ∷ ys) front back l =
    ap (ordering_then (nat_cmp x y)) (slice_cmp-append xs ys front back (omega arith))
    ∙ sym (then_assoc (nat_cmp x y) (slice_cmp nat_cmp xs ys) (slice_cmp nat_cmp front back))

-- as many bytes as a number, and then the rest
front_first : (n : ℕ) (f : List ℕ → ℕ) → ((zs : List ℕ) → length zs ≡ n → f zs ≡ number_from 0 zs) → (xs ys : List ℕ)
    → n ≤ length xs → n ≤ length ys → AreBytes xs → AreBytes ys
    → slice_cmp nat_cmp xs ys
    ≡ ordering_then (nat_cmp (f (take n xs)) (f (take n ys))) (slice_cmp nat_cmp (drop n xs) (drop n ys))
front_first n f is xs ys lx ly bx by =
    let left : length (take n xs) ≡ n = omega (arith, length-take n xs) in
    let right : length (take n ys) ≡ n = omega (arith, length-take n ys) in
    let numbers : nat_cmp (f (take n xs)) (f (take n ys)) ≡ slice_cmp nat_cmp (take n xs) (take n ys) =
    ap (λ m. nat_cmp m (f (take n ys))) (is (take n xs) left)
    ∙ ap (nat_cmp (number_from 0 (take n xs))) (is (take n ys) right)
    ∙ number_order (take n xs) (take n ys) (left ∙ sym right) (AreBytes-take n xs bx) (AreBytes-take n ys by) in
    let parts = rw (take-append-drop n xs, take-append-drop n ys) at
    (slice_cmp-append (take n xs) (take n ys) (drop n xs) (drop n ys) (left ∙ sym right)) in
    parts ∙ ap (λ o. ordering_then o (slice_cmp nat_cmp (drop n xs) (drop n ys))) (sym numbers)

-- eight bytes as a word, and then the rest
pub word_first : (xs ys : List ℕ) → 8 ≤ length xs → 8 ≤ length ys → AreBytes xs → AreBytes ys
    → slice_cmp nat_cmp xs ys
    ≡ ordering_then (nat_cmp (from_be_bytes w64 (take 8 xs)) (from_be_bytes w64 (take 8 ys)))
    (slice_cmp nat_cmp (drop 8 xs) (drop 8 ys))
word_first = front_first 8 (from_be_bytes w64) word_number

-- four bytes as half a word, and then the rest
pub half_first : (xs ys : List ℕ) → 4 ≤ length xs → 4 ≤ length ys → AreBytes xs → AreBytes ys
    → slice_cmp nat_cmp xs ys
    ≡ ordering_then (nat_cmp (from_be_bytes w32 (take 4 xs)) (from_be_bytes w32 (take 4 ys)))
    (slice_cmp nat_cmp (drop 4 xs) (drop 4 ys))
half_first = front_first 4 (from_be_bytes w32) half_number

pub order_tied : (o : Ordering) → is_eq o ≡ true → o ≡ Equal
order_tied Less h = cc
order_tied Equal h = refl
order_tied Greater h = cc

-- what comes after an order that is no tie does not count
pub order_decided : (o p : Ordering) → is_eq o ≡ false → ordering_then o p ≡ o
order_decided Less p h = refl
order_decided Equal p h = absurd cc
order_decided Greater p h = refl

-- ---- zeros after

same_zeros : (n : ℕ) → slice_cmp nat_cmp (replicate n 0) (replicate n 0) ≡ Equal
same_zeros zero = refl
same_zeros (suc n) = same_zeros n

-- a printable byte is no zero
printable_some : (b : ℕ) → is_printable b ≡ true → 0 < b
printable_some b p = let low : 32 ≤ b = leb-true 32 b (and_parts (leb 32 b) (leb b 126) p).0 in omega arith

-- zeros after texts do not change their order
pub zeros_order : (s t : List ℕ) (m n : ℕ) → list_all is_printable s ≡ true → list_all is_printable t ≡ true
    → length s + m ≡ length t + n
    → slice_cmp nat_cmp (s ++ replicate m 0) (t ++ replicate n 0) ≡ slice_cmp nat_cmp s t
zeros_order [] [] m n ps pt l = let same : m ≡ n = omega arith in rw same (same_zeros n)
zeros_order [] (y ∷ t) m n ps pt l =
    let long : m ≡ suc (length t + n) = omega arith in
    let some : 0 < y = printable_some y (and_parts (is_printable y) (list_all is_printable t) pt).0 in
    let first : nat_cmp 0 y ≡ Less = sym (nat_cmp_is 0 y Less some) in
    rw (long, first) refl
zeros_order (x ∷ s) [] m n ps pt l =
    let long : n ≡ suc (length s + m) = omega arith in
    let some : 0 < x = printable_some x (and_parts (is_printable x) (list_all is_printable s) ps).0 in
    let first : nat_cmp x 0 ≡ Greater = sym (nat_cmp_is x 0 Greater some) in
    rw (long, first) refl
zeros_order (x ∷ s) (y ∷ t) m n ps pt l = ap (ordering_then (nat_cmp x y))
    (zeros_order s t m n (and_parts (is_printable x) (list_all is_printable s) ps).1
    (and_parts (is_printable y) (list_all is_printable t) pt).1 (omega arith))

-- the bytes that ids are kept in are in the order of their texts
pub padded_order : (max m n : ℕ) (a b : List ℕ) → IsPadded max m a → IsPadded max n b
    → slice_cmp nat_cmp a b ≡ slice_cmp nat_cmp (take m a) (take n b)
padded_order max m n a b pa pb =
    let left : take m a ++ replicate (max - m) 0 ≡ a = rw (← pa.rest) (take-append-drop m a) in
    let right : take n b ++ replicate (max - n) 0 ≡ b = rw (← pb.rest) (take-append-drop n b) in
    let long : length (take m a) + (max - m) ≡ length (take n b) + (max - n) =
    omega (arith, length-take m a, length-take n b, pa.whole, pb.whole, pa.few, pb.few) in
    ap (λ (s : List ℕ). slice_cmp nat_cmp s b) (sym left)
    ∙ ap (slice_cmp nat_cmp (take m a ++ replicate (max - m) 0)) (sym right)
    ∙ zeros_order (take m a) (take n b) (max - m) (max - n) (id_printable max (take m a) (take m a) pa.is_id)
    (id_printable max (take n b) (take n b) pb.is_id) long

-- and they are equal where the texts are
pub padded_same : (max m n : ℕ) (a b : List ℕ) → IsPadded max m a → IsPadded max n b
    → is_eq (slice_cmp nat_cmp a b) ≡ pointwise nat_eq (take m a) (take n b)
padded_same max m n a b pa pb = ap is_eq (padded_order max m n a b pa pb) ∙ is_eq-slice_cmp (take m a) (take n b)
