-- A family's members and rows, found among all by tests of both.
use Rattle.std.specs.Prelude.{nat_lt, ◌||◌, ◌&&◌}
use Rattle.std.proofs.Common.{◌≡◌, ℕ, suc, Bool, true, List, [], ◌∷◌, length, refl, ap, inl, inr, arith}
use Rattle.std.specs.List.{filter, list_any}
use Rattle.std.specs.Ordering.{is_eq, ordering_then}
use Rattle.std.specs.declared.cmp.Ordering.{Ordering}
use Rattle.std.specs.declared.cmp.Ordering.TheVariants.{Less, Equal, Greater}
use Rattle.std.proofs.lemmas.Bool.{cases_Bool}
use Rattle.rx_sorted.specs.Ascending.{has_key, item_at}
use Rattle.rx_ledger.specs.declared.member.Member.{Member}
use Rattle.rx_ledger.specs.declared.member.MemberKey.{MemberKey}
use Rattle.rx_ledger.specs.Members.{is_same, member_cmp, member_key, of_family, person_in}

-- ---- any list

some_more : (n : ℕ) → true ≡ nat_lt 0 (suc n)
some_more n = grind arith

module _ {X : Type 0} (p : X → Bool) where
  -- some item passes exactly where those that pass are some
  pub any_passes : (xs : List X) → list_any p xs ≡ nat_lt 0 (length (filter p xs))
  any_passes [] = refl
  any_passes (x ∷ xs) = elim (cases_Bool (p x)) [
    | inl passes ↦ rw passes (some_more (length (filter p xs)))
    | inr fails ↦ rw fails (any_passes xs)
  ]

  -- some item passes both tests
  pub any_of_passed : (q : X → Bool) (xs : List X) → list_any (λ x. p x && q x) xs ≡ list_any q (filter p xs)
  any_of_passed q [] = refl
  any_of_passed q (x ∷ xs) = elim (cases_Bool (p x)) [
    | inl passes ↦ rw passes (ap (λ b. q x || b) (any_of_passed q xs))
    | inr fails ↦ rw fails (any_of_passed q xs)
  ]

-- ---- members

-- two keys tie where both parts do
tied_parts : (p q : Ordering) → is_eq (ordering_then p q) ≡ (is_eq p && is_eq q)
tied_parts Less q = refl
tied_parts Equal q = refl
tied_parts Greater q = refl

-- the person of a family is found by family and person at once
pub person_found : (ms : List Member) (family person : List ℕ)
    → item_at member_cmp member_key ms (record { family = family; person = person })
    ≡ person_in (filter (of_family family) ms) person
person_found [] family person = refl
person_found (x ∷ xs) family person =
    let k : MemberKey = record { family = family; person = person } in
    let both : has_key member_cmp member_key k x ≡ (of_family family x && is_same x.key.person person) = tied_parts _ _ in
    elim (cases_Bool (of_family family x)) [
      | inl own ↦ elim (cases_Bool (is_same x.key.person person)) [
        | inl same ↦ rw (both, own, same) refl
        | inr different ↦ rw (both, own, different) (person_found xs family person)
      ]
      | inr stranger ↦ rw (both, stranger) (person_found xs family person)
    ]
