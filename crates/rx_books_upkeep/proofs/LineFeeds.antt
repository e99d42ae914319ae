-- Line feeds, counted from one to the next.
use Rattle.std.proofs.Common.{◌≡◌, ℕ, zero, suc, ◌+◌, ◌<◌, Bool, false, true, eqb, List, [], ◌∷◌, length, get_or, drop, refl, ap, sym, ◌∙◌, arith}
use Rattle.std.specs.Prelude.{◌==◌}
use Rattle.std.proofs.lemmas.List.Elements.{All-head, All-tail}
use Rattle.std.proofs.lemmas.List.Sums.{length-filter}
use Rattle.std.proofs.lemmas.Bool.{false_from_ne_true}
use Rattle.rx_books_text.specs.Printed.{line_feeds}
use Rattle.rx_books_text.proofs.Cuts.{NoneBefore, Without, none_passes}

feeds_nowhere : (bytes : List ℕ) → Without 10 bytes → line_feeds bytes ≡ 0
feeds_nowhere [] none = refl
feeds_nowhere (b ∷ bytes) none =
    let P : ℕ → Type 0 = λ b. eqb b 10 ≡ false in
    rw (All-head P b bytes none) (feeds_nowhere bytes (All-tail P b bytes none))

pub feeds_none : (bytes : List ℕ) → NoneBefore 10 (length bytes) bytes → line_feeds bytes ≡ 0
feeds_none bytes none = feeds_nowhere bytes (none_passes 10 bytes none)

pub feeds_at : (bytes : List ℕ) (at : ℕ) → at < length bytes → NoneBefore 10 at bytes → eqb (get_or bytes at 0) 10 ≡ true
    → line_feeds bytes ≡ suc (line_feeds (drop (at + 1) bytes))
feeds_at [] at lt none here = absurd (omega arith)
feeds_at (b ∷ bytes) zero lt none here =
    let feed : ℕ → Bool = λ x. x == 10 in
    sym (length-filter feed (b ∷ bytes)) ∙ rw here (ap suc (length-filter feed bytes))
feeds_at (b ∷ bytes) (suc at) lt none here =
    let other : eqb b 10 ≡ false = false_from_ne_true (eqb b 10) (none 0 (omega arith) (omega arith)) in
    let next : suc at + 1 ≡ suc (at + 1) = omega arith in
    rw (other, next) (feeds_at bytes at (omega arith) (λ k low below. none (suc k) (omega arith) (omega arith)) here)
