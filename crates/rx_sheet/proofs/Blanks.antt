-- Texts that stay printable.
use Rattle.std.proofs.Common.{◌≡◌, ℕ, zero, suc, List, [], ◌∷◌, ◌++◌, drop, true, refl}
use Rattle.std.proofs.lemmas.Bool.{and_parts}
use Rattle.std.proofs.lemmas.List.Folds.{list_all-append}
use Rattle.rx_text.specs.Bytes.{is_printable, all_printable}

pub all_printable-drop : (n : ℕ) (text : List ℕ) → all_printable text ≡ true → all_printable (drop n text) ≡ true
all_printable-drop zero text printable = printable
all_printable-drop (suc n) [] printable = refl
all_printable-drop (suc n) (b ∷ text) printable =
    let parts = and_parts (is_printable b) (all_printable text) printable in all_printable-drop n text parts.1

pub all_printable-both : (a b : List ℕ) → all_printable a ≡ true → all_printable b ≡ true
    → all_printable (a ++ b) ≡ true
all_printable-both a b first second = rw (list_all-append is_printable a b, first, second) refl
