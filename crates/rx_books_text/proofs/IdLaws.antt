-- An id is read as it is spelled.
use Rattle.std.proofs.Common.{◌≡◌, ℕ, Bool, true, false, not, cond, eqb, ltb, List, length}
use Rattle.std.proofs.Common.{Some, None, Result, Ok, refl, sym, ap, subst, ◌∙◌}
use Rattle.std.specs.Cmp.Lexicographic.{same_text}
use Rattle.std.specs.List.{list_all, list_any}
use Rattle.std.specs.Result.{result_ok}
use Rattle.std.proofs.lemmas.Cmp.{nat_list_eq_equiv}
use Rattle.rx_fields.specs.declared.fault.IdFault.{IdFault}
use Rattle.rx_fields.specs.declared.fault.IdFault.TheVariants as id
use Rattle.rx_text.specs.Bytes.{is_printable}
use Rattle.rx_fields.specs.Text.{trimmed, is_bar, id_of, IsId}
use Rattle.rx_books_text.specs.LineReading.{same, id_in}
use Rattle.rx_text.proofs.Steps.{bind_some, guarded, some_same}
use Rattle.rx_books_text.proofs.Steps.{id_ok_of, id_passed, IsInside, letters_inside}

abbrev pub id_fine : List ℕ → Result (List ℕ) IdFault
id_fine x = Ok x

pub id_takes : (max : ℕ) (bs t : List ℕ) → id_in max bs ≡ Some t → (bs ≡ t) × IsId max t
unfolding id_in
id_takes max bs t e =
    let a = bind_some (result_ok (id_of max bs)) (λ text. cond (same text bs) (Some text) None) t e in
    let g = guarded (same a.0 bs) (Some a.0) t a.2 in
    let is : a.0 ≡ t = some_same g.1 in
    let text : a.0 ≡ bs = same_text a.0 bs (sym g.0) in
    let whole : bs ≡ t = sym text ∙ is in
    let read : id_of max bs ≡ Ok t = id_ok_of (id_of max bs) a.0 a.1 ∙ ap Ok is in
    (whole, subst (λ (s : List ℕ). id_of max s ≡ Ok t) whole read)

pub id_again : (max : ℕ) (t : List ℕ) → IsId max t → id_in max t ≡ Some t
unfolding id_in
id_again max t is = rw (is, nat_list_eq_equiv.refl t) refl

pub id_inside : (max : ℕ) (t : List ℕ) → IsId max t → IsInside t
id_inside max t is =
    let some = id_passed (eqb (length (trimmed t)) 0) id.Blank _ t is in
    let short = id_passed (ltb max (length (trimmed t))) id.TooLong _ t some.1 in
    let printable = id_passed (not (list_all is_printable (trimmed t))) id.NotPrintable _ t short.1 in
    let bar = id_passed (list_any is_bar (trimmed t)) id.Bar _ t printable.1 in
    let whole : trimmed t ≡ t = same_ok (trimmed t) t bar.1 in
    let shown : list_all is_printable (trimmed t) ≡ true = unnot _ printable.0 in
    subst IsInside whole (letters_inside (trimmed t) shown bar.0)
  where
    same_ok : (x y : List ℕ) → id_fine x ≡ id_fine y → x ≡ y
    same_ok x y e = cc

    unnot : (b : Bool) → not b ≡ false → b ≡ true
    unnot true e = refl
    unnot false e = absurd cc
