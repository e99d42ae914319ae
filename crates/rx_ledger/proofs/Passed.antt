-- Tests that each item of a list passes, after a put and of an item that is found.
use Rattle.std.proofs.Common.{◌≡◌, List, [], ◌∷◌, Bool, true, Some, None, refl, sym, ap, ◌∙◌, inl, inr}
use Rattle.std.specs.List.{filter, list_all}
use Rattle.std.specs.declared.cmp.Ordering.{Ordering}
use Rattle.std.proofs.lemmas.Bool.{cases_Bool, and_parts}
use Rattle.rx_sorted.specs.Ascending.{has_key, item_at, put}
use Rattle.rx_sorted.proofs.Keys.{cases_Ordering}

module _ {X : Type 0} (p : X → Bool) where
  pub passed_next : (x : X) (xs : List X) → p x ≡ true → list_all p xs ≡ true → list_all p (x ∷ xs) ≡ true
  passed_next x xs one rest = rw one rest

  pub passed_filter : (keep : X → Bool) (xs : List X) → list_all p xs ≡ true → list_all p (filter keep xs) ≡ true
  passed_filter keep [] h = refl
  passed_filter keep (x ∷ xs) h =
      let parts = and_parts (p x) (list_all p xs) h in
      elim (cases_Bool (keep x)) [
        | inl kept ↦ rw kept (passed_next x (filter keep xs) parts.0 (passed_filter keep xs parts.1))
        | inr dropped ↦ rw dropped (passed_filter keep xs parts.1)
      ]

  pub passed_put : {K : Type 0} (cmp : K → K → Ordering) (key : X → K) (xs : List X) (x : X) → list_all p xs ≡ true
      → p x ≡ true → list_all p (put cmp key xs x) ≡ true
  passed_put cmp key [] x h one = passed_next x [] one refl
  passed_put cmp key (y ∷ ys) x h one =
      let parts = and_parts (p y) (list_all p ys) h in
      elim (cases_Ordering (cmp (key y) (key x))) [
        | inl less ↦ rw less (passed_next y (put cmp key ys x) parts.0 (passed_put cmp key ys x parts.1 one))
        | inr (inl tied) ↦ rw tied (passed_next x ys one parts.1)
        | inr (inr more) ↦ rw more (passed_next x (y ∷ ys) one h)
      ]

  -- an item that is found is one of the list
  pub passed_found : {K : Type 0} (cmp : K → K → Ordering) (key : X → K) (xs : List X) (k : K) (x : X)
      → list_all p xs ≡ true → item_at cmp key xs k ≡ Some x → p x ≡ true
  passed_found cmp key [] k x h found = absurd (let e : None ≡ Some x = found in cc)
  passed_found cmp key (y ∷ ys) k x h found =
      let parts = and_parts (p y) (list_all p ys) h in
      elim (cases_Bool (has_key cmp key k y)) [
        | inl here ↦
            let e : Some y ≡ Some x = rw here at found in
            let same : y ≡ x = cc in
            sym (ap p same) ∙ parts.0
        | inr other ↦ passed_found cmp key ys k x parts.1 (rw other at found)
      ]

-- a test that passes wherever another does
pub passed_weaker : {X : Type 0} (p q : X → Bool) → ((x : X) → p x ≡ true → q x ≡ true) → (xs : List X)
    → list_all p xs ≡ true → list_all q xs ≡ true
passed_weaker p q weaker [] h = refl
passed_weaker p q weaker (x ∷ xs) h =
    let parts = and_parts (p x) (list_all p xs) h in
    passed_next q x xs (weaker x parts.0) (passed_weaker p q weaker xs parts.1)
