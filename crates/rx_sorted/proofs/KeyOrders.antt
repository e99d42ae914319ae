-- The orders of keys with several fields are total, and where they distinguish each field they distinguish the keys.
use Rattle.std.proofs.Common.{◌≡◌, ℕ, refl}
use Rattle.std.specs.Cmp.{IsTotalOrder}
use Rattle.std.specs.Ordering.{nat_cmp, ordering_then}
use Rattle.std.specs.declared.cmp.Ordering.{Ordering}
use Rattle.std.specs.declared.cmp.Ordering.TheVariants.{Less, Equal, Greater}
use Rattle.std.proofs.lemmas.Cmp.{nat_cmp_total, nat_list_cmp_total, on_total, then_total}
use Rattle.std.proofs.lemmas.Map.Lookups.{CmpEqualImpliesEq, exact_bytes, exact_unsigned}
use Rattle.rx_sorted.specs.Orders.{text_cmp, by_two, by_three, triple_cmp}

-- ---- numbers and texts

pub number_total : IsTotalOrder nat_cmp
number_total = nat_cmp_total

pub number_exact : CmpEqualImpliesEq nat_cmp
number_exact = exact_unsigned

pub text_total : IsTotalOrder text_cmp
text_total = nat_list_cmp_total

pub text_exact : CmpEqualImpliesEq text_cmp
text_exact = exact_bytes

-- ---- two fields, and three

then_ties : (o n : Ordering) → ordering_then o n ≡ Equal → (o ≡ Equal) × (n ≡ Equal)
then_ties Less n h = cc
then_ties Equal n h = (refl, h)
then_ties Greater n h = cc

module _ {K A B : Type 0} {p : A → A → Ordering} {q : B → B → Ordering} (first : K → A) (second : K → B) where
  pub by_two_total : IsTotalOrder p → IsTotalOrder q → IsTotalOrder (by_two p first q second)
  by_two_total o n = then_total (on_total first o) (on_total second n)

  -- keys are made of the two fields
  pub by_two_exact : CmpEqualImpliesEq p → CmpEqualImpliesEq q
      → ((j k : K) → first j ≡ first k → second j ≡ second k → j ≡ k) → CmpEqualImpliesEq (by_two p first q second)
  by_two_exact o n made j k tied = let both = then_ties (p (first j) (first k)) (q (second j) (second k)) tied in
      made j k (o _ _ both.0) (n _ _ both.1)

module _ {K A B C : Type 0} {p : A → A → Ordering} {q : B → B → Ordering} {r : C → C → Ordering} (first : K → A)
    (second : K → B) (third : K → C) where
  pub by_three_total : IsTotalOrder p → IsTotalOrder q → IsTotalOrder r
      → IsTotalOrder (by_three p first q second r third)
  by_three_total o n m = then_total (on_total first o) (by_two_total second third n m)

  pub by_three_exact : CmpEqualImpliesEq p → CmpEqualImpliesEq q → CmpEqualImpliesEq r
      → ((j k : K) → first j ≡ first k → second j ≡ second k → third j ≡ third k → j ≡ k)
      → CmpEqualImpliesEq (by_three p first q second r third)
  by_three_exact o n m made j k tied =
      let front = then_ties (p (first j) (first k))
      (ordering_then (q (second j) (second k)) (r (third j) (third k))) tied in
      let back = then_ties (q (second j) (second k)) (r (third j) (third k)) front.1 in
      made j k (o _ _ front.0) (n _ _ back.0) (m _ _ back.1)

-- ---- three numbers

module _ {K : Type 0} (first : K → ℕ) (second : K → ℕ) (third : K → ℕ) where
  pub triple_total : IsTotalOrder (triple_cmp first second third)
  triple_total = by_three_total first second third number_total number_total number_total

  pub triple_exact : ((j k : K) → first j ≡ first k → second j ≡ second k → third j ≡ third k → j ≡ k)
      → CmpEqualImpliesEq (triple_cmp first second third)
  triple_exact made = by_three_exact first second third number_exact number_exact number_exact made
