-- Lists of places, by number, with one place more.
use Rattle.std.proofs.Common.{◌≡◌, ℕ, suc, ◌+◌, ◌<◌, Bool, cond, ◌==◌, List, [], ◌∷◌, ◌++◌, length, get_or, map, set}
use Rattle.std.proofs.Common.{refl, ap, sym, ◌∙◌, arith, inl, inr}
use Rattle.std.proofs.lemmas.Bool.{cases_Bool, eqb-false, eqb-true}
use Rattle.std.proofs.lemmas.List.{append-nil, append_assoc, get_or-map, get_or-set_other, get_or-set_same, get_or_default}
use Rattle.std.proofs.lemmas.List.{length-map, map-set}
use Rattle.rx_schedule.specs.Shards.{is_of, list_at, places_of}
use Rattle.rx_schedule.specs.Waves.{number_in}

-- a place after those of its number's list
pub list_put : {V : Type 0} (items : V → List ℕ) (lists : List V) (number place : ℕ) (d new : V) → number < length lists
    → items new ≡ items (get_or lists number d) ++ place ∷ [] → (k : ℕ) → k < length lists
    → list_at (map items (set lists number new)) k ≡ list_at (map items lists) k ++ cond (number == k) (place ∷ []) []
list_put items lists number place d new lt put k in_range =
    let long : length (map items lists) ≡ length lists = length-map lists items in
    ap (λ rs. list_at rs k) (map-set items lists number new) ∙ elim (cases_Bool (number == k)) [
      | inl own ↦
          let same : number ≡ k = eqb-true number k own in
          let before : list_at (map items lists) k ≡ items (get_or lists number d) =
          ap (list_at (map items lists)) (sym same) ∙ get_or-map items lists number d [] lt in
          ap (list_at (set (map items lists) number (items new))) (sym same)
          ∙ get_or-set_same (map items lists) number (items new) [] (omega arith)
          ∙ put ∙ rw (own, before) refl
      | inr other ↦
          get_or-set_other (map items lists) number k (items new) [] (λ e. eqb-false number k other (sym e))
          ∙ rw other (sym (append-nil (list_at (map items lists) k)))
    ]

-- the places of a number with one record more
places_more : (chosen : ℕ → Bool) (n : ℕ) → places_of chosen (suc n) ≡ places_of chosen n ++ cond (chosen (suc n)) (suc n ∷ []) []
places_more chosen n = elim (cases_Bool (chosen (suc n))) [
  | inl own ↦ rw own refl
  | inr other ↦ rw other (sym (append-nil (places_of chosen n)))
]

places_next : (numbers : List ℕ) (k at next d : ℕ) → at < length numbers → next ≡ at + 1
    → places_of (is_of (number_in numbers) k) next
    ≡ places_of (is_of (number_in numbers) k) at ++ cond (get_or numbers at d == k) (next ∷ []) []
places_next numbers k at next d lt is =
    let up : next ≡ suc at = omega arith in
    let chosen = is_of (number_in numbers) k in
    ap (places_of chosen) up ∙ places_more chosen at
    ∙ ap (λ m. places_of chosen at ++ cond (m == k) (suc at ∷ []) []) (get_or_default numbers at 0 d lt)
    ∙ ap (λ p. places_of chosen at ++ cond (get_or numbers at d == k) (p ∷ []) []) (sym up)

-- the places that were there, and those of one record more
pub places_put : (first before now : List ℕ) (numbers : List ℕ) (k at next d : ℕ) → at < length numbers → next ≡ at + 1
    → before ≡ first ++ places_of (is_of (number_in numbers) k) at
    → now ≡ before ++ cond (get_or numbers at d == k) (next ∷ []) []
    → now ≡ first ++ places_of (is_of (number_in numbers) k) next
places_put first before now numbers k at next d lt is so_far put =
    let more = cond (get_or numbers at d == k) (next ∷ []) [] in
    put ∙ ap (λ xs. xs ++ more) so_far ∙ append_assoc first (places_of (is_of (number_in numbers) k) at) more
    ∙ ap (λ xs. first ++ xs) (sym (places_next numbers k at next d lt is))
