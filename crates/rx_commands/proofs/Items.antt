-- Items of a list by their number from 1.
use Rattle.std.proofs.Common.{◌≡◌, ◌≤◌, ◌<◌, ◌+◌, ◌++◌, ◌∷◌, ℕ, zero, suc, List, [], Some, None, get_or, length}
use Rattle.std.proofs.Common.{Bool, filter, inl, inr, length-append, refl, sym, ap, ◌∙◌, arith}
use Rattle.std.specs.Prelude.{◌-◌, true, nat_lt, slice_get, if◌then◌else◌}
use Rattle.std.proofs.lemmas.Bool.{cases_Bool}
use Rattle.std.proofs.Math.Seq.{get_or-append_seam}
use Rattle.std.proofs.lemmas.List.{get_or_append_left}
use Rattle.std.proofs.lemmas.Option.{slice_get-get_or, slice_get_past}
use Rattle.rx_explain.specs.Spots.{item}

is_some_place : (i : ℕ) → nat_lt 0 (suc i) ≡ true
is_some_place i = grind arith

before_it : (i : ℕ) → suc i - 1 ≡ i
before_it i = omega arith

-- by the number from 0
pub item_of : {X : Type 0} (xs : List X) (i : ℕ) → item xs (suc i) ≡ slice_get xs i
item_of xs i =
    ap (λ b. if b then slice_get xs (suc i - 1) else None) (is_some_place i) ∙ ap (slice_get xs) (before_it i)

item_next : {X : Type 0} (xs : List X) (i : ℕ) → item xs (i + 1) ≡ slice_get xs i
item_next xs i = (let e : i + 1 ≡ suc i = omega arith in ap (item xs) e) ∙ item_of xs i

-- the item at a place
pub item_at : {X : Type 0} (xs : List X) (i : ℕ) (x : X) → i < length xs → x ≡ get_or xs i x → item xs (i + 1) ≡ Some x
item_at xs i x within is = item_next xs i ∙ slice_get-get_or xs i x within ∙ ap Some (sym is)

-- none after the last
pub item_past : {X : Type 0} (xs : List X) (n : ℕ) → length xs < n → item xs n ≡ None
item_past xs zero past = refl
item_past xs (suc i) past = item_of xs i ∙ slice_get_past xs i (omega arith)

-- no list has one before the first
pub no_item : {X : Type 0} (n : ℕ) → item {X = X} [] n ≡ None
no_item zero = refl
no_item {X} (suc i) = item_of {X = X} [] i

-- those of a list with one more item
pub item_more : {X : Type 0} (xs : List X) (x : X) (n : ℕ) → n ≤ length xs → item (xs ++ x ∷ []) n ≡ item xs n
item_more xs x zero le = refl
item_more xs x (suc i) le =
    let within : i < length xs = omega arith in
    let longer : length (xs ++ x ∷ []) ≡ length xs + 1 = length-append xs (x ∷ []) in
    item_of (xs ++ x ∷ []) i ∙ slice_get-get_or (xs ++ x ∷ []) i x (omega arith)
    ∙ ap Some (get_or_append_left xs (x ∷ []) x i within)
    ∙ sym (item_of xs i ∙ slice_get-get_or xs i x within)

-- and the last of them
pub item_end : {X : Type 0} (xs : List X) (x : X) → item (xs ++ x ∷ []) (length xs + 1) ≡ Some x
item_end xs x =
    let longer : length (xs ++ x ∷ []) ≡ length xs + 1 = length-append xs (x ∷ []) in
    item_next (xs ++ x ∷ []) (length xs)
    ∙ slice_get-get_or (xs ++ x ∷ []) (length xs) x (omega arith)
    ∙ ap Some (get_or-append_seam xs x [] x)

-- what passes, passes again
pub filter_again : {X : Type 0} (p : X → Bool) (xs : List X) → filter p (filter p xs) ≡ filter p xs
filter_again p [] = refl
filter_again p (x ∷ xs) = elim (cases_Bool (p x)) [
  | inl passes ↦ rw (passes, passes) (ap (λ ys. x ∷ ys) (filter_again p xs))
  | inr fails ↦ rw fails (filter_again p xs)
]
