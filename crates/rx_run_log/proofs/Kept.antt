-- How the front and the end of bytes go on as more are added.
use Rattle.std.proofs.Common.{◌≡◌, ◌+◌, ◌-◌, ◌≤◌, ℕ, suc, zero, List, [], ◌∷◌, ◌++◌, length, min, take, drop, refl, sym}
use Rattle.std.proofs.Common.{◌∙◌, ap, inl, inr, arith, Result, Ok, Err, true, false}
use Rattle.std.specs.Result.{IsOk, OnOk}
use Rattle.std.proofs.lemmas.Bool.{cases_lt}
use native.Mathlib.Numerals.{unary_clauses}
use Rattle.std.proofs.lemmas.List.{drop_all, take_all, take-append-drop, drop-drop, length-append, length-drop, length-take, take-take}
use Rattle.std.proofs.lemmas.List.Sums.{count_by-le-length, sum_by-append}
use Rattle.rx_run_log.specs.Traffic.{count_of, last_of}

-- a front of both is a front of the first, and of the second what there is still room for
pub take-append : (n : ℕ) (xs ys : List ℕ) → take n (xs ++ ys) ≡ take n xs ++ take (n - length xs) ys
take-append zero xs ys = let none : 0 - length xs ≡ 0 = omega arith in rw none
take-append (suc n) [] ys = simp unary_clauses
take-append (suc n) (x ∷ xs) ys =
    let less : suc n - suc (length xs) ≡ n - length xs = omega arith in
    rw less (ap (λ l. x ∷ l) (take-append n xs ys))

-- what is left of both is what is left of the first, and of the second
pub drop-append : (n : ℕ) (xs ys : List ℕ) → drop n (xs ++ ys) ≡ drop n xs ++ drop (n - length xs) ys
drop-append zero xs ys = let none : 0 - length xs ≡ 0 = omega arith in rw none
drop-append (suc n) [] ys = simp unary_clauses
drop-append (suc n) (x ∷ xs) ys =
    let less : suc n - suc (length xs) ≡ n - length xs = omega arith in
    rw less (drop-append n xs ys)

-- no more can be taken than there is
pub take-min : (n : ℕ) (ys : List ℕ) → take (min n (length ys)) ys ≡ take n ys
take-min zero ys = let none : min 0 (length ys) ≡ 0 = omega arith in rw none
take-min (suc n) [] = let none : min (suc n) 0 ≡ 0 = omega arith in rw none
take-min (suc n) (y ∷ ys) =
    let one : min (suc n) (suc (length ys)) ≡ suc (min n (length ys)) = omega arith in
    rw one (ap (λ l. y ∷ l) (take-min n ys))

-- the front is filled up
pub take-fills : (n : ℕ) (xs ys : List ℕ) → length xs ≤ n → take n (xs ++ ys) ≡ xs ++ take (min (n - length xs) (length ys)) ys
take-fills n xs ys fits = rw (take-append, take_all n xs fits, take-min)

-- the front of a front and more
pub take-on : (n : ℕ) (xs ys : List ℕ) → take n (take n xs ++ ys) ≡ take n (xs ++ ys)
take-on n xs ys =
    let room : n - length (take n xs) ≡ n - length xs = omega (arith, length-take n xs) in
    take-append n (take n xs) ys ∙ rw (room, take-take n n xs (omega arith)) (sym (take-append n xs ys))

-- the end of both is an end of the first, and of the second
pub last-append : (n : ℕ) (xs ys : List ℕ)
    → last_of n (xs ++ ys) ≡ drop (length xs + length ys - n) xs ++ drop (length ys - n) ys
last-append n xs ys =
    let rest : length xs + length ys - n - length xs ≡ length ys - n = omega arith in
    rw (length-append xs ys) (drop-append (length xs + length ys - n) xs ys ∙ rw rest refl)

-- the end is what there is still room for of the first, and the end of the second
pub last-fills : (n : ℕ) (xs ys : List ℕ) → last_of n (xs ++ ys) ≡ last_of (n - length (last_of n ys)) xs ++ last_of n ys
last-fills n xs ys =
    let size = length-drop (length ys - n) ys in
    let first : drop (length xs + length ys - n) xs ≡ last_of (n - length (last_of n ys)) xs =
    elim (cases_lt n (length ys)) [
      | inl long ↦ drop_all _ xs (omega arith) ∙ sym (drop_all _ xs (omega arith))
      | inr short ↦ ap (λ m. drop m xs) (omega arith)
    ] in
    last-append n xs ys ∙ ap (λ l. l ++ last_of n ys) first

-- the end of an end and more
pub last-on : (n : ℕ) (xs ys : List ℕ) → last_of n (last_of n xs ++ ys) ≡ last_of n (xs ++ ys)
last-on n xs ys =
    let kept = length-drop (length xs - n) xs in
    let count : length xs - n + (length (last_of n xs) + length ys - n) ≡ length xs + length ys - n = omega arith in
    last-append n (last_of n xs) ys
    ∙ rw (drop-drop (length (last_of n xs) + length ys - n) (length xs - n) xs, count) (sym (last-append n xs ys))

-- what was asked for was done
pub was_ok : {T E : Type 0} {P : Type 0} (r : Result T E) → IsOk r → OnOk r P → P
was_ok (Ok x) is p = p
was_ok (Err e) is p = let never : false ≡ true = is in cc

-- what is counted in both is what is counted in the first, and in the second
pub sum-on : (a b m n : ℕ) → n ≡ a + b → min (min a m + b) m ≡ min n m
sum-on a b m n is = rw is (omega arith)

pub count-on : (mark : ℕ) (xs ys : List ℕ) → count_of mark (xs ++ ys) ≡ count_of mark xs + count_of mark ys
count-on mark xs ys = sum_by-append _ xs ys

-- what is counted at the front and in what follows is what is counted in the whole
pub count-cut : (mark n : ℕ) (xs : List ℕ) → count_of mark (take n xs) + count_of mark (drop n xs) ≡ count_of mark xs
count-cut mark n xs = sym (count-on mark (take n xs) (drop n xs)) ∙ ap (count_of mark) (take-append-drop n xs)

-- a block more is counted, and what follows it is left
pub count-block : (mark n count part : ℕ) (bytes rest block after : List ℕ) → count + count_of mark rest ≡ count_of mark bytes
    → part ≡ count_of mark block → block ≡ take n rest → after ≡ drop n rest → count + part + count_of mark after ≡ count_of mark bytes
count-block mark n count part bytes rest block after so is front back =
    omega (arith, so, is, ap (count_of mark) front, ap (count_of mark) back, count-cut mark n rest)

-- no more is counted than there is
pub count-few : (mark : ℕ) (bytes : List ℕ) → count_of mark bytes ≤ length bytes
count-few mark bytes = count_by-le-length _ bytes
