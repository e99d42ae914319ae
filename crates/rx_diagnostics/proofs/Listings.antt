-- The nearest person, line by line.
use Rattle.std.proofs.Common.{◌≡◌, ℕ, true, cond, List, [], ◌∷◌, ◌++◌, Option, Some, refl, ap, ◌∙◌, sym, inl, inr}
use Rattle.std.specs.List.{filter, last_or}
use Rattle.std.proofs.lemmas.Bool.{cases_Bool}
use Rattle.std.proofs.lemmas.List.{append-nil}
use Rattle.std.proofs.lemmas.List.Elements.{filter-append}
use Rattle.rx_diagnostics.specs.Parts.{field_of}
use Rattle.rx_diagnostics.specs.BooksMembers.{is_member_of, is_until, nearest, persons_in, nearer}

last_or-last : (o : Option (List ℕ)) (xs : List (List ℕ)) (x : List ℕ) → last_or o (xs ++ x ∷ []) ≡ Some x
last_or-last o [] x = refl
last_or-last o (y ∷ xs) x = last_or-last (Some y) xs x

found-more : (person y : List ℕ) (zs : List (List ℕ)) (x : List ℕ)
    → nearer person (last_or (Some y) zs) x ≡ cond (is_until person x) (Some x) (last_or (Some y) zs)
found-more person y [] x = refl
found-more person y (z ∷ zs) x = found-more person z zs x

-- one more person
pub nearest-more : (person : List ℕ) (xs : List (List ℕ)) (x : List ℕ)
    → nearest person (xs ++ x ∷ []) ≡ nearer person (nearest person xs) x
nearest-more person [] x = elim (cases_Bool (is_until person x)) [
  | inl here ↦ rw here refl
  | inr other ↦ rw other refl
]
nearest-more person (y ∷ xs) x =
    let q = is_until person in
    let all : nearest person (y ∷ (xs ++ x ∷ [])) ≡ last_or (Some y) (filter q (y ∷ xs) ++ filter q (x ∷ [])) =
    ap (last_or (Some y)) (filter-append q (y ∷ xs) (x ∷ [])) in
    let step = found-more person y (filter q (y ∷ xs)) x in
    elim (cases_Bool (q x)) [
      | inl here ↦
          let said : last_or (Some y) (filter q (y ∷ xs) ++ filter q (x ∷ [])) ≡ Some x =
          rw here (last_or-last (Some y) (filter q (y ∷ xs)) x) in
          let stepped : nearer person (nearest person (y ∷ xs)) x ≡ Some x = rw here at step in
          all ∙ said ∙ sym stepped
      | inr other ↦
          let said : last_or (Some y) (filter q (y ∷ xs) ++ filter q (x ∷ [])) ≡ nearest person (y ∷ xs) =
          rw other (ap (last_or (Some y)) (append-nil (filter q (y ∷ xs)))) in
          let stepped : nearer person (nearest person (y ∷ xs)) x ≡ nearest person (y ∷ xs) = rw other at step in
          all ∙ said ∙ sym stepped
    ]

-- one more line
pub persons-more : (family : List ℕ) (lines : List (List ℕ)) (line : List ℕ)
    → persons_in family (lines ++ line ∷ []) ≡ persons_in family lines ++ persons_in family (line ∷ [])
persons-more family [] line = refl
persons-more family (l ∷ lines) line = elim (cases_Bool (is_member_of family l)) [
  | inl here ↦ rw here (ap (λ r. field_of l 3 ∷ r) (persons-more family lines line))
  | inr other ↦ rw other (persons-more family lines line)
]

-- the person of one more line, which is a member's of the family
pub nearest-line : (person family : List ℕ) (lines : List (List ℕ)) (line : List ℕ) → is_member_of family line ≡ true
    → nearest person (persons_in family (lines ++ line ∷ []))
    ≡ nearer person (nearest person (persons_in family lines)) (field_of line 3)
nearest-line person family lines line own =
    let said : persons_in family (line ∷ []) ≡ field_of line 3 ∷ [] = rw own refl in
    ap (nearest person) (persons-more family lines line ∙ ap (λ ps. persons_in family lines ++ ps) said)
    ∙ nearest-more person (persons_in family lines) (field_of line 3)
