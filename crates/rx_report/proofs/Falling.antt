-- Nets fall: what they are below zero rises, and where that is the same, what they are above zero falls.
use Rattle.std.proofs.Common.{◌≡◌, ℕ, ◌+◌, ◌-◌, ◌<◌, ◌≤◌, ◌&&◌, not, true, List, length, arith, eqb, ltb, refl, sym, ◌∙◌, inl, inr, is_lt, nat_cmp}
use Rattle.std.specs.Prelude.{slice_index_or}
use Rattle.std.specs.List.Sorted.{IsNonDecreasingBy, IsSortedBy, IsStableByKey}
use Rattle.std.proofs.lemmas.Bool.{cases_Bool, cases_lt, le-ltb, ltb-false}
use Rattle.std.proofs.lemmas.Cmp.{nat_cmp_total}
use Rattle.std.proofs.lemmas.List.Sorted.{IsStrictWeakOrder-flip, ranks_by, ties_stay_sorted}
use Rattle.rx_report.specs.declared.section.Section.{Section}
use Rattle.rx_report.specs.ByNet.{NetsFall}

nat_cmp-ltb : (a b : ℕ) → is_lt (nat_cmp a b) ≡ ltb a b
nat_cmp-ltb a b = elim (cases_Bool (ltb a b)) [
  | inl less ↦ rw less refl
  | inr not_less ↦ rw not_less (elim (cases_Bool (eqb a b)) [ inl same ↦ rw same refl | inr other ↦ rw other refl ])
]

-- a list with m falling, sorted stably by n: where n is the same, m still falls
ties_still_fall : {X : Type 0} (m n : X → ℕ) (xs ys : List X) → IsSortedBy (λ x y. is_lt (nat_cmp (m y) (m x))) xs
    → IsStableByKey n nat_cmp xs ys → (k : ℕ) (d : X) → k + 1 < length ys
    → n (slice_index_or ys k d) ≡ n (slice_index_or ys (k + 1) d)
    → m (slice_index_or ys (k + 1) d) ≤ m (slice_index_or ys k d)
ties_still_fall m n xs ys fall stable k d w same =
    let x = slice_index_or ys k d in
    let y = slice_index_or ys (k + 1) d in
    let tie : not (is_lt (nat_cmp (n x) (n y))) && not (is_lt (nat_cmp (n y) (n x))) ≡ true =
    λ i. not ((nat_cmp-ltb (n x) (n y) ∙ le-ltb (n x) (n y) (omega arith)) i)
    && not ((nat_cmp-ltb (n y) (n x) ∙ le-ltb (n y) (n x) (omega arith)) i) in
    ltb-false (m x) (m y) (sym (nat_cmp-ltb (m x) (m y)) ∙ ties_stay_sorted (λ x y. is_lt (nat_cmp (m y) (m x))) _
    (IsStrictWeakOrder-flip _ (ranks_by nat_cmp_total m)) (ranks_by nat_cmp_total n) xs ys fall stable k d w tie)

-- of two nets, p less q and b less c, the second isn't greater
not_greater : (p q b c : ℕ) → q - p ≤ c - b → (q - p ≡ c - b → b - c ≤ p - q) → b + q ≤ p + c
not_greater p q b c le ties = elim (cases_lt (q - p) (c - b)) [
  | inl less ↦ omega arith
  | inr not_less ↦ let same : q - p ≡ c - b = omega arith in let rest = ties same in omega arith
]

pub nets_fall : (xs ys : List Section)
    → IsSortedBy (λ x y. is_lt (nat_cmp (y.tally.paid_out - y.tally.taken_back) (x.tally.paid_out - x.tally.taken_back))) xs
    → IsStableByKey (λ x. x.tally.taken_back - x.tally.paid_out) nat_cmp xs ys
    → IsNonDecreasingBy (λ x. x.tally.taken_back - x.tally.paid_out) ys → NetsFall ys
nets_fall xs ys fall stable rise k d w =
    let s = slice_index_or ys k d in
    let t = slice_index_or ys (k + 1) d in
    not_greater s.tally.paid_out s.tally.taken_back t.tally.paid_out t.tally.taken_back
    (rise k (k + 1) d (omega arith) w)
    (ties_still_fall (λ (x : Section). x.tally.paid_out - x.tally.taken_back) (λ (x : Section). x.tally.taken_back - x.tally.paid_out) xs ys
    fall stable k d w)
