-- How often a place is in a list, and in rows of lists.
use Rattle.std.proofs.Common.{◌≡◌, ◌≢◌, ℕ, zero, suc, ◌+◌, ◌-◌, ◌<◌, ◌≤◌, cond, ◌==◌, List, [], ◌∷◌, ◌++◌, length}
use Rattle.std.proofs.Common.{get_or, set, take, reverse, refl, ap, sym, ◌∙◌, inl, inr, arith, subst}
use Rattle.std.proofs.lemmas.Bool.{cases_Bool, cases_eq, cases_lt, eq-eqb, eqb-true}
use Rattle.std.proofs.lemmas.List.{get_or_past, get_or-set_other, get_or-set_same}
use Rattle.std.proofs.lemmas.List.Sorted.{IsPermutation-reverse, sum_by-IsPermutation}
use Rattle.std.proofs.lemmas.List.Sums.{get_or-le-sum_by, sum_by-append, sum_by-cons, sum_by-set, sum_by-take-le, sum_by_push}
use Rattle.rx_schedule.specs.Links.{number_at, row_of, times, total}
use Rattle.rx_schedule.specs.Machine.{Pairs, Was}

-- 1 where they are one, else 0
abbrev pub one_if : ℕ → ℕ → ℕ
one_if x q = cond (x == q) 1 0

pub one_same : (q : ℕ) → one_if q q ≡ 1
one_same q = rw (eq-eqb q q refl) refl

pub one_other : (x q : ℕ) → x ≢ q → one_if x q ≡ 0
one_other x q h = elim (cases_Bool (x == q)) [
  | inl t ↦ absurd (h (eqb-true x q t))
  | inr f ↦ rw f refl
]

pub one_small : (x q : ℕ) → one_if x q ≤ 1
one_small x q = elim (cases_Bool (x == q)) [ inl t ↦ rw t (omega arith) | inr f ↦ rw f (omega arith) ]

pub times-cons : (q x : ℕ) (xs : List ℕ) → times q (x ∷ xs) ≡ one_if x q + times q xs
times-cons q x xs = sum_by-cons (λ y. one_if y q) x xs

pub times-append : (q : ℕ) (xs ys : List ℕ) → times q (xs ++ ys) ≡ times q xs + times q ys
times-append q xs ys = sum_by-append (λ y. one_if y q) xs ys

pub times-push : (q : ℕ) (xs : List ℕ) (y : ℕ) → times q (xs ++ y ∷ []) ≡ times q xs + one_if y q
times-push q xs y = sum_by_push (λ y. one_if y q) xs y

pub times-reverse : (q : ℕ) (xs : List ℕ) → times q (reverse xs) ≡ times q xs
times-reverse q xs = sum_by-IsPermutation (λ y. one_if y q) xs (reverse xs) (IsPermutation-reverse xs)

pub times-take : (q i : ℕ) (xs : List ℕ) → times q (take i xs) ≤ times q xs
times-take q i xs = sum_by-take-le (λ y. one_if y q) xs i

-- ---- who is in a list is in it at least once

pub times-from_Was : (q : ℕ) (xs : List ℕ) → Was q xs → 1 ≤ times q xs
times-from_Was q [] w = elim w [ ]
times-from_Was q (x ∷ xs) (inl e) =
    let c : times q (x ∷ xs) ≡ one_if x q + times q xs = times-cons q x xs in
    let o : one_if x q ≡ 1 = ap (λ y. one_if y q) e ∙ one_same q in omega arith
times-from_Was q (x ∷ xs) (inr w) =
    let c : times q (x ∷ xs) ≡ one_if x q + times q xs = times-cons q x xs in
    let r : 1 ≤ times q xs = times-from_Was q xs w in omega arith

pub Was-from_times : (q : ℕ) (xs : List ℕ) → 1 ≤ times q xs → Was q xs
Was-from_times q [] h = absurd (omega arith)
Was-from_times q (x ∷ xs) h = elim (cases_eq x q) [
  | inl e ↦ inl e
  | inr f ↦
      let c : times q (x ∷ xs) ≡ one_if x q + times q xs = times-cons q x xs in
      let o : one_if x q ≡ 0 = one_other x q f in
      inr (Was-from_times q xs (omega arith))
]

-- each at most once: no two of them are one
pub Pairs-from_times : (xs : List ℕ) → ((q : ℕ) → times q xs ≤ 1) → Pairs (λ later earlier. earlier ≢ later) xs
Pairs-from_times [] once = tt
Pairs-from_times (x ∷ xs) once = (
  (λ j w e.
      let c : times x (x ∷ xs) ≡ one_if x x + times x xs = times-cons x x xs in
      let o : one_if x x ≡ 1 = one_same x in
      let m : times x (x ∷ xs) ≤ 1 = once x in
      let t : 1 ≤ times j xs = times-from_Was j xs w in
      let s : 1 ≤ times x xs = subst (λ y. 1 ≤ times y xs) e t in
      absurd (omega arith)),
  Pairs-from_times xs (λ q.
      let c : times q (x ∷ xs) ≡ one_if x q + times q xs = times-cons q x xs in
      let m : times q (x ∷ xs) ≤ 1 = once q in omega arith),
)

-- ---- rows

pub total-row : (q : ℕ) (rows : List (List ℕ)) (p : ℕ) → times q (row_of rows p) ≤ total q rows
total-row q rows p = elim (cases_lt (p - 1) (length rows)) [
  | inl lt ↦ get_or-le-sum_by (times q) rows (p - 1) [] lt
  | inr past ↦ rw (get_or_past rows (p - 1) [] past) (omega arith)
]

pub total-set : (q : ℕ) (rows : List (List ℕ)) (p : ℕ) (row : List ℕ) → p - 1 < length rows
    → total q (set rows (p - 1) row) + times q (row_of rows p) ≡ total q rows + times q row
total-set q rows p row lt = sum_by-set (times q) rows (p - 1) row [] lt

-- where no row has the place
pub total-none : (q : ℕ) (rows : List (List ℕ)) → ((p : ℕ) → 1 ≤ p → p ≤ length rows → times q (row_of rows p) ≡ 0)
    → total q rows ≡ 0
total-none q [] none = refl
total-none q (row ∷ rows) none =
    let c : total q (row ∷ rows) ≡ times q row + total q rows = sum_by-cons (times q) row rows in
    let first : times q row ≡ 0 = none 1 (omega arith) (omega arith) in
    let rest : total q rows ≡ 0 = total-none q rows (λ p one to. later p one to) in
    omega arith
  where
    later : (p : ℕ) → 1 ≤ p → p ≤ length rows → times q (row_of rows p) ≡ 0
    later zero one to = absurd (omega arith)
    later (suc p) one to =
        let here : suc p - 1 ≡ p = omega arith in
        let next : suc (suc p) - 1 ≡ suc p = omega arith in
        ap (λ i. times q (get_or rows i [])) here ∙ sym (ap (λ i. times q (get_or (row ∷ rows) i [])) next)
        ∙ none (suc (suc p)) (omega arith) (omega arith)

pub row-same : (rows : List (List ℕ)) (p : ℕ) (row : List ℕ) → 1 ≤ p → p ≤ length rows
    → row_of (set rows (p - 1) row) p ≡ row
row-same rows p row one to = get_or-set_same rows (p - 1) row [] (omega arith)

pub row-other : (rows : List (List ℕ)) (p q : ℕ) (row : List ℕ) → 1 ≤ p → 1 ≤ q → q ≢ p
    → row_of (set rows (p - 1) row) q ≡ row_of rows q
row-other rows p q row one from h =
    let apart : q - 1 ≢ p - 1 = omega arith in get_or-set_other rows (p - 1) (q - 1) row [] apart

pub number-same : (numbers : List ℕ) (p x : ℕ) → 1 ≤ p → p ≤ length numbers
    → number_at (set numbers (p - 1) x) p ≡ x
number-same numbers p x one to = get_or-set_same numbers (p - 1) x 0 (omega arith)

pub number-other : (numbers : List ℕ) (p q x : ℕ) → 1 ≤ p → 1 ≤ q → q ≢ p
    → number_at (set numbers (p - 1) x) q ≡ number_at numbers q
number-other numbers p q x one from h =
    let apart : q - 1 ≢ p - 1 = omega arith in get_or-set_other numbers (p - 1) (q - 1) x 0 apart
