-- The claims that count most are kept while one after another is put in.
use Rattle.std.specs.Prelude.{nat_lt}
use Rattle.std.proofs.Common.{◌≡◌, ℕ, zero, suc, ◌+◌, arith, true, false, List, [], ◌∷◌, ◌++◌, take, drop, refl, sym, ap, ◌∙◌, inl, inr}
use Rattle.std.specs.List.{prefix_len}
use Rattle.std.proofs.lemmas.Bool.{cases_Bool}
use Rattle.rx_d0_values.specs.declared.bill.BillParts.{BillParts}
use Rattle.rx_explain.specs.declared.traced.Traced.{Traced}
use Rattle.rx_explain_text.specs.Counted.{counted_of, counts_as_much, counts_some, put_in, with_claim}
use Rattle.rx_explain_text.specs.declared.counted.Counted.{Counted}
use Rattle.rx_explain_text.specs.declared.counted.Counts.{Counts}

put_later : (n : ℕ) (y x : Counted) (ys : List Counted)
    → take (1 + n) (y ∷ ys) ++ x ∷ drop (1 + n) (y ∷ ys) ≡ y ∷ (take n ys ++ x ∷ drop n ys)
put_later n y x ys =
    let one_more : 1 + n ≡ suc n = omega arith in
    rw one_more refl

-- a claim stands after those that count as much
pub put_at : (xs : List Counted) (x : Counted)
    → take (prefix_len (counts_as_much x.cents) xs) xs ++ x ∷ drop (prefix_len (counts_as_much x.cents) xs) xs ≡ put_in xs x
put_at [] x = refl
put_at (y ∷ ys) x = elim (cases_Bool (counts_as_much x.cents y)) [
  | inl as_much ↦ rw as_much
      (put_later (prefix_len (counts_as_much x.cents) ys) y x ys ∙ ap (λ zs. y ∷ zs) (put_at ys x))
  | inr less ↦ rw less refl
]

take_fewer : {X : Type 0} (n : ℕ) (xs : List X) → take n (take (suc n) xs) ≡ take n xs
take_fewer zero xs = refl
take_fewer (suc n) [] = refl
take_fewer (suc n) (x ∷ xs) = ap (λ ys. x ∷ ys) (take_fewer n xs)

take_again : {X : Type 0} (n : ℕ) (x : X) (xs : List X) → take n (x ∷ take n xs) ≡ take n (x ∷ xs)
take_again zero x xs = refl
take_again (suc n) x xs = ap (λ ys. x ∷ ys) (take_fewer n xs)

-- what isn't kept before a claim is put in isn't kept after it
pub kept_alike : (n : ℕ) (xs : List Counted) (x : Counted) → take n (put_in (take n xs) x) ≡ take n (put_in xs x)
kept_alike zero xs x = refl
kept_alike (suc n) [] x = refl
kept_alike (suc n) (y ∷ ys) x = elim (cases_Bool (counts_as_much x.cents y)) [
  | inl as_much ↦ rw as_much (ap (λ zs. y ∷ zs) (kept_alike n ys x))
  | inr less ↦ rw less (ap (λ zs. x ∷ zs) (take_again n y ys))
]

-- a claim that counts something is put in, another isn't
pub with_some : (counts : Counts) (b : BillParts) (xs : List Counted) (t : Traced) (cents : ℕ) → cents ≡ counted_of counts b t
    → nat_lt 0 cents ≡ true → with_claim counts b xs t ≡ put_in xs (record { cents = cents; traced = t })
with_some counts b xs t cents e some =
    let counts_some_is : counts_some counts b t ≡ true = ap (nat_lt 0) (sym e) ∙ some in
    rw counts_some_is (ap (λ n. put_in xs (record { cents = n; traced = t })) (sym e))

pub with_none : (counts : Counts) (b : BillParts) (xs : List Counted) (t : Traced) (cents : ℕ) → cents ≡ counted_of counts b t
    → nat_lt 0 cents ≡ false → with_claim counts b xs t ≡ xs
with_none counts b xs t cents e none =
    let counts_some_is : counts_some counts b t ≡ false = ap (nat_lt 0) (sym e) ∙ none in
    rw counts_some_is refl
