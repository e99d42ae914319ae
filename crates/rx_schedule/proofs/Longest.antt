-- A wave is the length of the longest sharing chain that ends at its place, and no valid numbering is below the waves.
use Rattle.std.proofs.Common.{◌≡◌, ℕ, zero, suc, ◌+◌, ◌-◌, ◌<◌, ◌≤◌, true, List, [], ◌∷◌}
use Rattle.std.proofs.Common.{◌++◌, length, refl, ap, sym, ◌∙◌, inl, inr, arith, subst}
use Rattle.std.proofs.lemmas.Bool.{cases_lt}
use Rattle.std.proofs.lemmas.List.{get_or_append_left, get_or_push, length_push}
use Rattle.rx_books_parcel.specs.Footprints.{FootprintParts}
use Rattle.rx_schedule.proofs.Scanned.{read_past}
use Rattle.rx_schedule.specs.Waves.{AreLongest, AreWaves, EndsAt, IsChain, IsSharingChain, IsValidNumbering, member_at, number_in, shares}

module _ (fs : List FootprintParts) (numbers : List ℕ) (w : AreWaves fs numbers) where
  at_least : (i : ℕ) → 1 ≤ i → i ≤ length fs → 1 ≤ number_in numbers i
  at_least i one to = elim (w.reached i one to) [
    | inl e ↦ let f : number_in numbers i ≡ 1 = e in omega arith
    | inr v ↦ let f : number_in numbers i ≡ suc (number_in numbers v.0) = v.4 in omega arith
  ]

  -- along a sharing chain the numbers rise
  rises : (chain : List ℕ) → IsSharingChain fs chain → (k : ℕ) → k < length chain → suc k ≤ number_in numbers (member_at chain k)
  rises chain c zero lt = let t = c.there 0 lt in at_least (member_at chain 0) t.0 t.1
  rises chain c (suc k) lt =
      let s = c.steps k lt in
      let a = c.there k (omega arith) in
      let b = c.there (suc k) lt in
      let before : suc k ≤ number_in numbers (member_at chain k) = rises chain c k (omega arith) in
      let more : number_in numbers (member_at chain k) < number_in numbers (member_at chain (suc k)) =
      w.above (member_at chain k) (member_at chain (suc k)) a.0 s.0 b.1 s.1 in
      omega arith

  longest : (chain : List ℕ) → IsSharingChain fs chain → (place : ℕ) → EndsAt chain place → length chain ≤ number_in numbers place
  longest chain c place ends =
      let some : 1 ≤ length chain = ends.0 in
      let r : suc (length chain - 1) ≤ number_in numbers (member_at chain (length chain - 1)) =
      rises chain c (length chain - 1) (omega arith) in
      let e : number_in numbers (member_at chain (length chain - 1)) ≡ number_in numbers place =
      ap (number_in numbers) ends.1 in
      omega arith

  abbrev Reaches : ℕ → Type 0
  Reaches place = (chain : List ℕ) × IsSharingChain fs chain × EndsAt chain place × (length chain ≡ number_in numbers place)

  alone : (place : ℕ) → 1 ≤ place → place ≤ length fs → number_in numbers place ≡ 1 → Reaches place
  alone place one to e = (
    place ∷ [],
    record { there = only; steps = λ k lt. absurd (omega arith) },
    ((omega arith), refl),
    sym e,
  )
    where
      only : (k : ℕ) → k < length (place ∷ []) → (1 ≤ member_at (place ∷ []) k) × (member_at (place ∷ []) k ≤ length fs)
      only zero lt = (one, to)
      only (suc k) lt = absurd (omega arith)

  longer : (chain : List ℕ) (before place : ℕ) → IsSharingChain fs chain → EndsAt chain before → before < place
      → place ≤ length fs → shares fs before place ≡ true → IsSharingChain fs (chain ++ place ∷ [])
  longer chain before place c ends lt to shared =
      let many : length (chain ++ place ∷ []) ≡ length chain + 1 = length_push chain place in
      let some : 1 ≤ length chain = ends.0 in
      let first : (k : ℕ) → k < length chain → member_at (chain ++ place ∷ []) k ≡ member_at chain k =
      λ k short. get_or_append_left chain (place ∷ []) 0 k short in
      let last : (k : ℕ) → length chain ≡ k → member_at (chain ++ place ∷ []) k ≡ place =
      λ k e. get_or_push chain place 0 k e in
      record {
        there = λ k short. elim (cases_lt k (length chain)) [
          | inl in_chain ↦
              let t = c.there k in_chain in
              subst (λ m. (1 ≤ m) × (m ≤ length fs)) (sym (first k in_chain)) t
          | inr past ↦ subst (λ m. (1 ≤ m) × (m ≤ length fs)) (sym (last k (omega arith))) ((omega arith), to)
        ];
        steps = λ k short. elim (cases_lt (suc k) (length chain)) [
          | inl in_chain ↦
              let s = c.steps k in_chain in
              rw (first k (omega arith), first (suc k) in_chain) s
          | inr past ↦
              let at : length chain - 1 ≡ k = omega arith in
              let here : member_at (chain ++ place ∷ []) k ≡ before =
              first k (omega arith) ∙ ap (member_at chain) (sym at) ∙ ends.1 in
              rw (here, last (suc k) (omega arith)) (lt, shared)
        ];
      }

  reach : (steps place : ℕ) → place ≤ steps → 1 ≤ place → place ≤ length fs → Reaches place
  reach zero place few one to = absurd (omega arith)
  reach (suc steps) place few one to = elim (w.reached place one to) [
    | inl e ↦ alone place one to e
    | inr v ↦
        let before : ℕ = v.0 in
        let lt : before < place = v.2 in
        let r = reach steps before (omega arith) v.1 (omega arith) in
        let many : length (r.0 ++ place ∷ []) ≡ length r.0 + 1 = length_push r.0 place in
        let same : length r.0 ≡ number_in numbers before = r.3 in
        let next : number_in numbers place ≡ suc (number_in numbers before) = v.4 in (
          r.0 ++ place ∷ [],
          longer r.0 before place r.1 r.2 lt to v.3,
          ((omega arith), get_or_push r.0 place 0 (length (r.0 ++ place ∷ []) - 1) (omega arith)),
          (omega arith),
        )
  ]

  pub are_longest : AreLongest fs numbers
  are_longest = record { longest = longest; reached = λ place one to. reach place place (omega arith) one to }

  -- each number of a valid numbering is at least the wave
  below : (number : ℕ → ℕ) → IsValidNumbering fs number → (steps place : ℕ) → place ≤ steps → 1 ≤ place → place ≤ length fs
      → number_in numbers place ≤ number place
  below number v zero place few one to = absurd (omega arith)
  below number v (suc steps) place few one to = elim (w.reached place one to) [
    | inl e ↦ let f : number_in numbers place ≡ 1 = e in let g : 1 ≤ number place = v.from_one place one to in omega arith
    | inr u ↦
        let before : ℕ = u.0 in
        let lt : before < place = u.2 in
        let next : number_in numbers place ≡ suc (number_in numbers before) = u.4 in
        let h : number_in numbers before ≤ number before = below number v steps before (omega arith) u.1 (omega arith) in
        let g : number before < number place = v.above before place u.1 lt to u.3 in omega arith
  ]

  pub none_fewer : (number : ℕ → ℕ) → IsValidNumbering fs number → (place : ℕ) → 1 ≤ place → place ≤ length fs
      → number_in numbers place ≤ number place
  none_fewer number v place one to = below number v place place (omega arith) one to

-- the chain is a sharing chain
numbered : (numbers : List ℕ) (p : ℕ) → 1 ≤ number_in numbers p → (1 ≤ p) × (p ≤ length numbers)
numbered numbers zero some = absurd (omega arith)
numbered numbers (suc p) some = elim (cases_lt (length numbers) (suc p)) [
  | inl past ↦ absurd (let e : number_in numbers (suc p) ≡ 0 = read_past numbers (suc p) past in omega arith)
  | inr upto ↦ (omega arith, upto)
]

pub chain_shares : (fs : List FootprintParts) (numbers : List ℕ) (count : ℕ) (chain : List ℕ) → AreWaves fs numbers
    → IsChain fs numbers count chain → IsSharingChain fs chain
chain_shares fs numbers count chain w c =
    let whole : length chain ≡ count = c.whole in
    let many : length numbers ≡ length fs = w.one_each in
    record {
      there = λ k lt.
          let e : number_in numbers (member_at chain k) ≡ suc k = c.waves k (omega arith) in
          let t = numbered numbers (member_at chain k) (omega arith) in
          let to : member_at chain k ≤ length numbers = t.1 in
          (t.0, (omega arith));
      steps = λ k lt. let s = c.steps k (omega arith) in (s.earlier, s.sharer);
    }
