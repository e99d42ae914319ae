-- Providers, and the fields of 15 bytes that stand for them.
use Rattle.std.proofs.Common.{◌≡◌, ℕ, zero, suc, ◌-◌, Bool, true, false, ◌&&◌, not, cond, eqb, ltb, List, [], ◌∷◌}
use Rattle.std.proofs.Common.{◌++◌, ◌⊎◌, length, replicate, Result, Ok, Err, refl, sym, ap, ◌∙◌, inl, inr, arith}
use Rattle.std.specs.List.{list_all, list_any}
use Rattle.std.specs.Option.{unwrap_or}
use Rattle.std.specs.Result.{result_ok, is_ok}
use Rattle.std.specs.Cmp.Lexicographic.{bytes_decides}
use Rattle.std.proofs.lemmas.Bool.{cases_Bool}
use Rattle.std.proofs.lemmas.Bool.Decides.{nat_tests, Decides-like, same_from_decides}
use Rattle.rx_fields.specs.declared.fault.IdFault.{IdFault}
use Rattle.rx_fields.specs.declared.fault.IdFault.TheVariants as fault
use Rattle.rx_text.specs.Bytes.{is_printable}
use Rattle.rx_fields.specs.Text.{trimmed, id_of, is_bar}
use Rattle.rx_settle.specs.Counting.{field_text}
use Rattle.rx_settle.specs.Providers.{named, is_same}

-- ---- blanks at the end

-- blanks are trimmed to nothing
trimmed_blanks : (n : ℕ) → trimmed (replicate n 32) ≡ []
trimmed_blanks zero = refl
trimmed_blanks (suc n) = rw (trimmed_blanks n) refl

-- blanks at the end don't matter
trimmed_filled : (bs : List ℕ) (n : ℕ) → trimmed (bs ++ replicate n 32) ≡ trimmed bs
trimmed_filled [] n = trimmed_blanks n
trimmed_filled (b ∷ bs) n = rw (trimmed_filled bs n) refl

-- `filled_again` of b and bs, by whether b and all after it are blanks
filled_by : (blank : Bool) (b : ℕ) (bs t : List ℕ) → (eqb b 32 && eqb (length t) 0) ≡ blank
    → t ++ replicate (length bs - length t) 32 ≡ bs
    → cond blank [] (b ∷ t) ++ replicate (suc (length bs) - length (cond blank [] (b ∷ t))) 32 ≡ b ∷ bs
filled_by true b bs [] is rest =
    let blank : b ≡ 32 = grind (arith, nat_tests) in
    let more : suc (length bs) - 0 ≡ suc (length bs - 0) = omega arith in
    rw (more, blank) (ap (λ xs. 32 ∷ xs) rest)
filled_by true b bs (c ∷ t) is rest = absurd (grind (arith, nat_tests))
filled_by false b bs t is rest =
    let less : suc (length bs) - suc (length t) ≡ length bs - length t = omega arith in
    rw less (ap (λ xs. b ∷ xs) rest)

-- a text is what is left of it, and blanks
filled_again : (bs : List ℕ) → trimmed bs ++ replicate (length bs - length (trimmed bs)) 32 ≡ bs
filled_again [] = refl
filled_again (b ∷ bs) =
    filled_by (eqb b 32 && eqb (length (trimmed bs)) 0) b bs (trimmed bs) refl (filled_again bs)

-- what is left has no blank at its end
twice_by : (blank : Bool) (b : ℕ) (bs : List ℕ) → trimmed (trimmed bs) ≡ trimmed bs
    → (eqb b 32 && eqb (length (trimmed bs)) 0) ≡ blank
    → trimmed (cond blank [] (b ∷ trimmed bs)) ≡ cond blank [] (b ∷ trimmed bs)
twice_by true b bs again is = refl
twice_by false b bs again is = rw (again, is) refl

trimmed_twice : (bs : List ℕ) → trimmed (trimmed bs) ≡ trimmed bs
trimmed_twice [] = refl
trimmed_twice (b ∷ bs) = twice_by (eqb b 32 && eqb (length (trimmed bs)) 0) b bs (trimmed_twice bs) refl

-- ---- names

-- the id in a text depends on what is left of it without the blanks at its end
abbrev left : List ℕ → Result (List ℕ) IdFault
left t =
    cond (eqb (length t) 0) (Err fault.Blank)
    (cond (ltb 15 (length t)) (Err fault.TooLong)
    (cond (not (list_all is_printable t)) (Err fault.NotPrintable) (cond (list_any is_bar t) (Err fault.Bar) (Ok t))))

abbrev name_left : List ℕ → List ℕ
name_left t = unwrap_or (result_ok (left t)) []

-- a name is what is left where that is an id, or empty
left_cases : (t : List ℕ) → ((name_left t ≡ t) ⊎ (name_left t ≡ [])) × (is_ok (left t) ≡ true → name_left t ≡ t)
left_cases t = elim (cases_Bool (eqb (length t) 0)) [
  | inl h ↦ rw h (inr refl, λ e. cc)
  | inr h ↦ rw h (elim (cases_Bool (ltb 15 (length t))) [
    | inl h1 ↦ rw h1 (inr refl, λ e. cc)
    | inr h1 ↦ rw h1 (elim (cases_Bool (not (list_all is_printable t))) [
      | inl h2 ↦ rw h2 (inr refl, λ e. cc)
      | inr h2 ↦ rw h2 (elim (cases_Bool (list_any is_bar t)) [
        | inl h3 ↦ rw h3 (inr refl, λ e. cc)
        | inr h3 ↦ rw h3 (inl refl, λ e. refl)
      ])
    ])
  ])
]

-- nothing is trimmed off a name
trimmed_name : (f : List ℕ) → trimmed (named f) ≡ named f
trimmed_name f = elim (left_cases (trimmed f)).0 [
  | inl whole ↦ ap trimmed whole ∙ trimmed_twice f ∙ sym whole
  | inr none ↦ ap trimmed none ∙ sym none
]

-- the name of a field filled with blanks
trimmed_field : (f : List ℕ) → trimmed (field_text (named f)) ≡ named f
trimmed_field f = trimmed_filled (named f) (15 - length (named f)) ∙ trimmed_name f

-- the field that stands for a provider names it
pub named_again : (f : List ℕ) → named (field_text (named f)) ≡ named f
named_again f = ap name_left (trimmed_field f) ∙ elim (left_cases (trimmed f)).0 [
  | inl whole ↦ ap name_left whole
  | inr none ↦ ap name_left none ∙ sym none
]

-- and is the field itself, where this names one
pub field_known : (f : List ℕ) → length f ≡ 15 → is_ok (id_of 15 f) ≡ true → f ≡ field_text (named f)
field_known f whole known =
    let name : named f ≡ trimmed f = (left_cases (trimmed f)).1 known in
    sym (ap field_text name ∙ rw (← whole) (filled_again f))

-- fields stand for one provider where their names are the same
pub same_fields : (f g : List ℕ)
    → is_same (field_text (named f)) (field_text (named g)) ≡ is_same (named f) (named g)
same_fields f g = same_from_decides
    (is_same (field_text (named f)) (field_text (named g)))
    (is_same (named f) (named g))
    (Decides-like (is_same (field_text (named f)) (field_text (named g)))
    (λ e. sym (trimmed_field f) ∙ ap trimmed e ∙ trimmed_field g)
    (ap field_text)
    (bytes_decides (field_text (named f)) (field_text (named g))))
    (bytes_decides (named f) (named g))
