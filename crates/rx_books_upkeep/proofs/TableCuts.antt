-- Where a line of a members table is cut: at its first tab.
use Rattle.std.proofs.Common.{◌≡◌, ℕ, ◌+◌, ◌<◌, false, true, eqb, List, [], ◌∷◌, length, get_or, take, drop}
use Rattle.std.proofs.Common.{zero, suc, Some, None, refl, ap, sym, arith}
use Rattle.std.proofs.lemmas.List.Elements.{All-head, All-tail}
use Rattle.std.proofs.lemmas.Bool.{false_from_ne_true}
use Rattle.rx_books_text.proofs.Cuts.{NoneBefore, Without, none_passes}
use Rattle.rx_books_upkeep.specs.TableField.{cut}

cut_nowhere : (bytes : List ℕ) → Without 9 bytes → cut bytes ≡ None
unfolding cut
cut_nowhere [] none = refl
cut_nowhere (b ∷ bytes) none =
    let P : ℕ → Type 0 = λ b. eqb b 9 ≡ false in
    rw (All-head P b bytes none, cut_nowhere bytes (All-tail P b bytes none)) refl

pub cut_none : (bytes : List ℕ) → NoneBefore 9 (length bytes) bytes → cut bytes ≡ None
cut_none bytes none = cut_nowhere bytes (none_passes 9 bytes none)

pub cut_at : (bytes : List ℕ) (at : ℕ) → at < length bytes → NoneBefore 9 at bytes → eqb (get_or bytes at 0) 9 ≡ true
    → cut bytes ≡ Some (take at bytes, drop (at + 1) bytes)
unfolding cut
cut_at [] at lt none here = absurd (omega arith)
cut_at (b ∷ bytes) zero lt none here = rw here refl
cut_at (b ∷ bytes) (suc at) lt none here =
    let other : eqb b 9 ≡ false = false_from_ne_true (eqb b 9) (none 0 (omega arith) (omega arith)) in
    let next : suc at + 1 ≡ suc (at + 1) = omega arith in
    let same : drop (at + 1) bytes ≡ drop (suc at + 1) (b ∷ bytes) = sym (ap (λ (n : ℕ). drop n (b ∷ bytes)) next) in
    rw (other, cut_at bytes at (omega arith) (λ k low below. none (suc k) (omega arith) (omega arith)) here)
    (ap (λ (rest : List ℕ). Some (b ∷ take at bytes, rest)) same)
