-- The first piece of a text, and the pieces after it.
use Rattle.std.proofs.Common.{◌≡◌, ℕ, ◌+◌, ◌-◌, ◌<◌, ◌≤◌, true, false, eqb, List, [], ◌∷◌, ◌++◌, length}
use Rattle.std.proofs.Common.{get_or, take, drop, sym, ap, ◌∙◌, arith, drop-cons, add-one}
use Rattle.std.proofs.lemmas.Grind.{common_steps}
use Rattle.std.proofs.lemmas.Bool.{false_from_ne_true}
use Rattle.std.specs.List.{All}
use Rattle.std.proofs.lemmas.List.{take-append-drop, length-take, length-drop, take_all}
use Rattle.std.proofs.lemmas.List.Elements.{All-from_get_or}
use Rattle.std.proofs.lemmas.List.Splits.{slice_split_none, slice_split_at}
use Rattle.rx_text.specs.Bytes.{cut}
use Rattle.rx_d0_request.specs.Cut.{further}

none_passes : (separator : ℕ) (bytes : List ℕ) → ((k : ℕ) → k < length bytes → eqb (get_or bytes k 0) separator ≡ true → ⊥)
    → All (λ b. eqb b separator ≡ false) bytes
none_passes separator bytes none = All-from_get_or (λ b. eqb b separator ≡ false) bytes 0 (λ k lt. false_from_ne_true _ (none k lt))

-- a text without the separator is one piece
pub cut_none : (separator : ℕ) (bytes : List ℕ) → ((k : ℕ) → 0 ≤ k → k < length bytes → eqb (get_or bytes k 0) separator ≡ true → ⊥)
    → cut separator bytes ≡ bytes ∷ []
cut_none separator bytes none = slice_split_none (λ b. eqb b separator) bytes
    (none_passes separator bytes (λ k lt. none k (omega arith) lt))

-- the first piece ends at the first separator
pub cut_at : (separator : ℕ) (bytes : List ℕ) (at : ℕ) → at < length bytes
    → ((k : ℕ) → 0 ≤ k → k < at → eqb (get_or bytes k 0) separator ≡ true → ⊥) → eqb (get_or bytes at 0) separator ≡ true
    → cut separator bytes ≡ take at bytes ∷ cut separator (drop (at + 1) bytes)
cut_at separator bytes at lt none here =
    let front : All (λ b. eqb b separator ≡ false) (take at bytes) = none_passes separator (take at bytes) (λ k below.
    let k_lt : k < at = omega (arith, below, length-take at bytes) in
    let same : get_or (take at bytes) k 0 ≡ get_or bytes k 0 = grind (arith, common_steps) in
    rw same (none k (omega arith) k_lt)) in
    let whole : take at bytes ++ get_or bytes at 0 ∷ drop (at + 1) bytes
    ≡ bytes = rw (add-one, ← drop-cons bytes at 0 lt) (take-append-drop at bytes) in
    ap (cut separator) (sym whole) ∙ slice_split_at (λ b. eqb b separator) (take at bytes) (get_or bytes at 0)
    (drop (at + 1) bytes) front here

-- a slice to the end is what follows
pub to_end : (at : ℕ) (bytes : List ℕ) → take (length bytes - at) (drop at bytes) ≡ drop at bytes
to_end at bytes = take_all (length bytes - at) (drop at bytes) (omega (arith, length-drop at bytes))

-- the pieces after the first
pub further_of : (pieces : List (List ℕ)) (piece : List ℕ) (rest : List (List ℕ)) → pieces ≡ piece ∷ rest → rest ≡ further pieces
further_of pieces piece rest e = ap further (sym e)
