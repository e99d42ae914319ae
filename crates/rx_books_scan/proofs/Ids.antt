-- A text of letters that doesn't end with a blank is an id.
use Rattle.std.proofs.Common.{◌≡◌, ℕ, ◌-◌, ◌<◌, ◌≤◌, true, false, not, List, [], ◌∷◌, length, get_or, refl, sym, ap, ◌∙◌, arith}
use Rattle.std.specs.List.{list_all, list_any}
use Rattle.std.proofs.lemmas.Bool.{and_parts, not-true, ne_eqb, le-ltb}
use Rattle.rx_text.specs.Bytes.{is_printable}
use Rattle.rx_fields.specs.Text.{is_bar, IsId}
use Rattle.rx_fields.proofs.IdLaws.{trimmed_whole}
use Rattle.rx_books_scan.specs.Fields.{is_letter}

letters_fine : (t : List ℕ) → list_all is_letter t ≡ true → (list_all is_printable t ≡ true) × (list_any is_bar t ≡ false)
letters_fine [] e = (refl, refl)
letters_fine (b ∷ bs) e =
    let h = and_parts (is_letter b) (list_all is_letter bs) e in
    let letter = and_parts (is_printable b) (not (is_bar b)) h.0 in
    let more = letters_fine bs h.1 in
    (rw (letter.0, more.0) refl, rw (not-true (is_bar b) letter.1, more.1) refl)

pub letters_id : (max : ℕ) (t : List ℕ) → 0 < length t → length t ≤ max → list_all is_letter t ≡ true
    → (get_or t (length t - 1) 0 ≡ 32 → ⊥) → IsId max t
letters_id max t some few letters end =
    let whole = trimmed_whole t (λ lt. end) in
    let fine = letters_fine t letters in
    let long = ne_eqb (length t) 0 (λ e. omega arith) in
    rw (whole, long, le-ltb _ _ few, fine.0, fine.1) refl
