-- A map of groups, one item after another.
use Rattle.std.proofs.Common.{◌≡◌, ℕ, false, List, [], ◌∷◌, ◌++◌, sym, ap, ◌∙◌, inl, inr}
use Rattle.std.specs.Cmp.Lexicographic.{pointwise}
use Rattle.std.specs.Map.{lookup, keys_of, values_of}
use Rattle.std.specs.Prelude.{Some, is_some, nat_eq, position, slice_get}
use Rattle.std.specs.Vec.{vec_items}
use Rattle.std.specs.declared.vec.Vec.{Vec}
use Rattle.std.proofs.lemmas.Bool.{cases_Bool}
use Rattle.indexmap.specs.IndexMap.{insert_entry, set_value_at}
use Rattle.indexmap.proofs.MapLemmas.{Found-position, insert_entry-first}
use Rattle.rx_report.specs.Adding.{added, group_in, groups_in}
use Rattle.rx_settle.specs.Providers.{is_same}

module _ {X Z : Type 0} (p : List ℕ) (x : X) where
  -- an item more of a provider that the map has
  put_among : (v w : Vec X Z) (es : List (List ℕ × Vec X Z)) → lookup (is_same p) es ≡ Some v → vec_items w ≡ vec_items v ++ x ∷ []
      → groups_in (insert_entry (pointwise nat_eq) es p w) ≡ added p x (groups_in es)
  put_among v w [] found is = absurd cc
  put_among v w (e ∷ es) found is = elim (cases_Bool (is_same p e.0)) [
    | inl here ↦
        let there : Some e.1 ≡ Some v = rw here at found in
        let same : e.1 ≡ v = cc in
        rw here (ap (λ xs. (e.0, xs) ∷ groups_in es) (is ∙ ap (λ u. vec_items u ++ x ∷ []) (sym same)))
    | inr other ↦ rw other (ap (λ rest. group_in e ∷ rest) (put_among v w es (rw other at found) is))
  ]

  -- the first item of a provider
  pub first : (w : Vec X Z) (es : List (List ℕ × Vec X Z)) → is_some (lookup (is_same p) es) ≡ false → vec_items w ≡ x ∷ []
      → groups_in (insert_entry (pointwise nat_eq) es p w) ≡ added p x (groups_in es)
  first w [] none is = ap (λ xs. (p, xs) ∷ []) is
  first w (e ∷ es) none is = elim (cases_Bool (is_same p e.0)) [
    | inl here ↦ absurd (let h = rw here at none in cc)
    | inr other ↦ rw other (ap (λ rest. group_in e ∷ rest) (first w es (rw other at none) is))
  ]

  -- the items of a provider with one more, put back at its place
  pub put_back : (v w : Vec X Z) (es : List (List ℕ × Vec X Z)) (at : ℕ)
      → position (is_same p) (keys_of es) ≡ Some at → slice_get (values_of es) at ≡ Some v
      → vec_items w ≡ vec_items v ++ x ∷ [] → groups_in (set_value_at es at w) ≡ added p x (groups_in es)
  put_back v w es at place value is =
      let found = Found-position (is_same p) es at place in
      ap groups_in (sym (insert_entry-first (pointwise nat_eq) p w es at found.first))
      ∙ put_among v w es (found.value ∙ value) is
