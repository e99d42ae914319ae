-- The places that are chosen: these and no others are among them.
use Rattle.std.proofs.Common.{◌≡◌, ℕ, zero, suc, ◌≤◌, [], ◌∷◌, arith, inl, inr}
use Rattle.std.specs.Prelude.{Bool, true, All, Contains}
use Rattle.std.proofs.lemmas.Bool.{cases_Bool, cases_eq}
use Rattle.std.proofs.lemmas.List.Elements.{All-append, Contains-append_left, Contains-append_right}
use Rattle.rx_schedule.specs.Shards.{places_of}

-- it is one of the places 1 to n, and chosen
pub record IsChosen (chosen : ℕ → Bool) (n i : ℕ) : Type 0 where
  pub from_one : 1 ≤ i
  pub to : i ≤ n
  pub is : chosen i ≡ true

IsChosen-more : (chosen : ℕ → Bool) (n i : ℕ) → IsChosen chosen n i → IsChosen chosen (suc n) i
IsChosen-more chosen n i w = let up : i ≤ n = w.to in record { from_one = w.from_one; to = omega arith; is = w.is }

pub places_chosen : (chosen : ℕ → Bool) (n : ℕ) → All (IsChosen chosen n) (places_of chosen n)
places_chosen chosen zero = λ k d lt. absurd (omega arith)
places_chosen chosen (suc n) =
    let before : All (IsChosen chosen (suc n)) (places_of chosen n) =
    λ k d lt. IsChosen-more chosen n _ (places_chosen chosen n k d lt) in
    elim (cases_Bool (chosen (suc n))) [
      | inl w ↦ rw w (All-append (IsChosen chosen (suc n)) (places_of chosen n) (suc n ∷ []) before
          (λ k d lt. let first : k ≡ zero = omega arith in rw first record { from_one = omega arith; to = omega arith; is = w }))
      | inr other ↦ rw other before
    ]

pub places_have : (chosen : ℕ → Bool) (n i : ℕ) → 1 ≤ i → i ≤ n → chosen i ≡ true → Contains (places_of chosen n) i
places_have chosen zero i one to w = absurd (omega arith)
places_have chosen (suc n) i one to w = elim (cases_eq (suc n) i) [
  | inl same ↦
      let here : chosen (suc n) ≡ true = rw same w in
      rw here (Contains-append_right (places_of chosen n) (suc n ∷ []) i (zero, omega arith, same))
  | inr other ↦
      let before = places_have chosen n i one (omega arith) w in
      elim (cases_Bool (chosen (suc n))) [
        | inl e ↦ rw e (Contains-append_left (places_of chosen n) (suc n ∷ []) i before)
        | inr e ↦ rw e before
      ]
]
