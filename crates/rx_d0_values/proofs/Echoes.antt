-- Bytes of which each unprintable one became a blank are printable.
use Rattle.std.proofs.Common.{◌≡◌, ℕ, true, List, [], ◌∷◌, refl, inl, inr, if◌then◌else◌}
use Rattle.std.specs.List.{list_all}
use Rattle.std.proofs.lemmas.Bool.{cases_Bool}
use Rattle.rx_text.specs.Bytes.{is_printable}
use Rattle.rx_d0_values.specs.Echoed.{blanked}

printable_by : (b : ℕ) → is_printable (if is_printable b then b else 32) ≡ true
printable_by b = elim (cases_Bool (is_printable b)) [ inl shown ↦ rw shown shown | inr hidden ↦ rw hidden refl ]

pub blanked-printable : (bytes : List ℕ) → list_all is_printable (blanked bytes) ≡ true
blanked-printable [] = refl
blanked-printable (b ∷ bytes) = rw (printable_by b, blanked-printable bytes) refl
