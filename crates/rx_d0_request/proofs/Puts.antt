-- A text comes into the slot of its key.
use Rattle.std.proofs.Common.{◌≡◌, ℕ, ◌+◌, ◌<◌, ◌≤◌, true, false, List, [], ◌∷◌, ◌++◌, length, get_or, take, drop, Option}
use Rattle.std.proofs.Common.{Some, None, refl, sym, ap, ◌∙◌, arith, Bor, append_assoc, drop-cons, add-one}
use Rattle.std.specs.Prelude.{is_some}
use Rattle.std.proofs.Math.ListN.{set, drop_of_length-le}
use Rattle.std.proofs.lemmas.Grind.{common_steps}
use Rattle.std.proofs.lemmas.List.{take_more, append-nil}
use Rattle.rx_d0_request.specs.Cut.{same}
use Rattle.rx_text.specs.Options.{◌>>=◌}
use Rattle.rx_d0_request.specs.Slots.{text_of, filled_slot, put}

abbrev Slot : Type 0
Slot = Option (List ℕ)

-- the slots in front, and those that come after
abbrev pub with_front : List Slot → Option (List Slot) → Option (List Slot)
with_front front read = read >>= λ ys. Some (front ++ ys)

pub regroup : (front : List Slot) (y : Slot) (read : Option (List Slot))
    → with_front front (read >>= λ ys. Some (y ∷ ys)) ≡ with_front (front ++ y ∷ []) read
regroup front y None = refl
regroup front y (Some ys) = ap (λ (zs : List Slot). Some zs) (sym (append_assoc front (y ∷ []) ys))

none_behind : (front : List Slot) (y : Option Slot) (read : Option (List Slot)) → y ≡ None
    → with_front front (y >>= λ z. read >>= λ ys. Some (z ∷ ys)) ≡ None
none_behind front None read e = refl
none_behind front (Some y) read e = absurd cc

put_next : (keys : List (List ℕ)) (key text : List ℕ) (slots : List Slot) (i : ℕ) (k : List ℕ) (s : Slot) → i < length keys
    → length slots ≡ length keys
    → put (drop i keys) key text (drop i slots) ≡ (filled_slot (same key (get_or keys i k)) (get_or slots i s) text >>= λ y. put
    (drop (i + 1) keys) key text (drop (i + 1) slots) >>= λ ys. Some (y ∷ ys))
put_next keys key text slots i k s lt e =
    let lt_slots : i < length slots = omega arith in
    rw (drop-cons keys i k lt, drop-cons slots i s lt_slots, add-one) refl

-- the slot of the key is taken
pub put_taken : (keys : List (List ℕ)) (key text : List ℕ) (slots : List Slot) (i : ℕ) (k : List ℕ) (s : Slot) (total : Option (List Slot))
    → i < length keys → length slots ≡ length keys
    → same key (get_or keys i k) ≡ true → is_some (get_or slots i s) ≡ true
    → with_front (take i slots) (put (drop i keys) key text (drop i slots)) ≡ total → total ≡ None
put_taken keys key text slots i k s total lt e is_key is_taken so_far =
    let none : filled_slot (same key (get_or keys i k)) (get_or slots i s) text ≡ None = rw (is_key, is_taken) refl in
    let one : with_front (take i slots) (put (drop i keys) key text (drop i slots))
    ≡ None = rw (put_next keys key text slots i k s lt e) (none_behind (take i slots) _
    (put (drop (i + 1) keys) key text (drop (i + 1) slots)) none) in
    sym so_far ∙ one

-- the slot is another key's
pub put_other : (keys : List (List ℕ)) (key text : List ℕ) (slots : List Slot) (i : ℕ) (k : List ℕ) (s : Slot) (total : Option (List Slot))
    → i < length keys → length slots ≡ length keys
    → same key (get_or keys i k) ≡ false
    → with_front (take i slots) (put (drop i keys) key text (drop i slots)) ≡ total
    → with_front (take (i + 1) slots) (put (drop (i + 1) keys) key text (drop (i + 1) slots)) ≡ total
put_other keys key text slots i k s total lt e is_other so_far =
    let stays : filled_slot (same key (get_or keys i k)) (get_or slots i s) text ≡ Some (get_or slots i s) = rw is_other refl in
    let lt_slots : i < length slots = omega arith in
    let next : put (drop i keys) key text (drop i slots) ≡ (put (drop (i + 1) keys) key text (drop (i + 1) slots) >>=
    λ ys. Some (get_or slots i s ∷ ys)) = rw (put_next keys key text slots i k s lt e, stays) refl in
    let one : with_front (take i slots) (put (drop i keys) key text (drop i slots))
    ≡ with_front (take (i + 1) slots) (put (drop (i + 1) keys) key text (drop (i + 1) slots)) =
    rw (next, take_more slots i s lt_slots) (regroup (take i slots) (get_or slots i s)
    (put (drop (i + 1) keys) key text (drop (i + 1) slots))) in
    sym one ∙ so_far

-- the slot of the key is free
pub put_free : (keys : List (List ℕ)) (key text : List ℕ) (slots : List Slot) (i : ℕ) (k : List ℕ) (s : Slot) (total : Option (List Slot))
    → i < length keys → length slots ≡ length keys
    → same key (get_or keys i k) ≡ true → is_some (get_or slots i s) ≡ false
    → with_front (take i slots) (put (drop i keys) key text (drop i slots)) ≡ total
    → with_front (take (i + 1) (set slots i (Some text))) (put (drop (i + 1) keys) key text
    (drop (i + 1) (set slots i (Some text)))) ≡ total
put_free keys key text slots i k s total lt e is_key is_free so_far =
    let lt_slots : i < length slots = omega arith in
    let fills : filled_slot (same key (get_or keys i k)) (get_or slots i s) text ≡ Some (Some text) = rw (is_key, is_free) refl in
    let next : put (drop i keys) key text (drop i slots) ≡ (put (drop (i + 1) keys) key text (drop (i + 1) slots) >>=
    λ ys. Some (Some text ∷ ys)) = rw (put_next keys key text slots i k s lt e, fills) refl in
    let front : take (i + 1) (set slots i (Some text)) ≡ take i slots ++ Some text ∷ [] = grind (arith, common_steps) in
    let back : drop (i + 1) (set slots i (Some text)) ≡ drop (i + 1) slots = grind (arith, common_steps) in
    let one : with_front (take i slots) (put (drop i keys) key text (drop i slots))
    ≡ with_front (take (i + 1) (set slots i (Some text))) (put (drop (i + 1) keys) key text (drop (i + 1) (set slots i (Some text)))) =
    rw (next, front, back) (regroup (take i slots) (Some text) (put (drop (i + 1) keys) key text (drop (i + 1) slots))) in
    sym one ∙ so_far

-- all slots were looked at
pub put_done : (keys : List (List ℕ)) (key text : List ℕ) (slots : List Slot) (i : ℕ) (total : Option (List Slot)) → length keys ≤ i
    → length slots ≡ length keys
    → with_front (take i slots) (put (drop i keys) key text (drop i slots)) ≡ total → total ≡ Some slots
put_done keys key text slots i total le e so_far =
    let none : drop i slots ≡ [] = drop_of_length-le slots (omega arith) in
    let all : take i slots ≡ slots = grind (arith, common_steps) in
    let one : with_front (take i slots) (put (drop i keys) key text (drop i slots))
    ≡ Some slots = rw (none, all) (ap (λ (zs : List Slot). Some zs) (append-nil slots)) in
    sym so_far ∙ one

pub is_some_text : (slot : Option (Bor (List ℕ))) → is_some (text_of slot) ≡ is_some slot
is_some_text None = refl
is_some_text (Some s) = refl
