-- Members ascend by family: those of earlier families stand in front.
use Rattle.std.proofs.Common.{◌≡◌, ℕ, ◌<◌, ◌≤◌, Bool, true, false, List, length, get_or, refl, sym, ap, ◌∙◌, inl, inr, arith}
use Rattle.std.specs.List.{All, list_any}
use Rattle.std.specs.List.Sorted.{IsPartitionedBy, IsPartitionPoint}
use Rattle.std.specs.Ordering.{is_eq, is_lt, ordering_then}
use Rattle.std.specs.declared.cmp.Ordering.{Ordering}
use Rattle.std.specs.declared.cmp.Ordering.TheVariants.{Less, Equal, Greater}
use Rattle.std.proofs.lemmas.Bool.{cases_Bool, cases_lt}
use Rattle.std.proofs.lemmas.Cmp.{alike_right}
use Rattle.std.proofs.lemmas.List.Elements.{All-from_get_or}
use Rattle.std.proofs.lemmas.List.Folds.{list_any_at, list_any_none}
use Rattle.rx_sorted.specs.Ascending.{IsAscending}
use Rattle.rx_sorted.proofs.Keys.{cases_Ordering, Less-from_is_lt, Greater-from_Less, Less-from_Greater}
use Rattle.rx_sorted.proofs.Kept.{IsAscending-at}
use Rattle.rx_fields.specs.Order.{id_cmp}
use Rattle.rx_ledger.specs.declared.member.Member.{Member}
use Rattle.rx_ledger.specs.Members.{member_cmp, member_key, of_family}
use Rattle.rx_ledger.proofs.Orders.{id_total, member_total}

abbrev family_at : List Member → ℕ → Member → List ℕ
family_at ms i d = (get_or ms i d).key.family

-- the member's family stands before this one
abbrev pub is_before : List ℕ → Member → Bool
is_before family m = is_lt (id_cmp m.key.family family)

-- what decides a comparison of two keys by their first fields
first_of : (o p : Ordering) → ordering_then o p ≡ Less → (o ≡ Greater → ⊥)
first_of Less p h g = cc
first_of Equal p h g = cc
first_of Greater p h g = cc

-- a later member's family isn't before an earlier one's
rising : (ms : List Member) (i j : ℕ) (d : Member) → IsAscending member_cmp member_key ms → i < j → j < length ms
    → id_cmp (family_at ms i d) (family_at ms j d) ≡ Greater → ⊥
rising ms i j d ascends lt in_range =
    first_of _ _ (IsAscending-at member_cmp member_total member_key ms i j d ascends lt in_range)

-- the members whose family is before this one stand in front of the others
pub parted : (family : List ℕ) (ms : List Member) → IsAscending member_cmp member_key ms
    → IsPartitionedBy (is_before family) ms
parted family ms ascends i j d le in_range before = elim (cases_lt i j) [
  | inl lt ↦
      let f = family_at ms i d in
      let g = family_at ms j d in
      let less : id_cmp g family ≡ Less = Less-from_is_lt _ before in
      elim (cases_Ordering (id_cmp f g)) [
        | inl first ↦ ap is_lt (id_total.trans f g family first less)
        | inr (inl tied) ↦ ap is_lt (id_total.congr f g family tied ∙ less)
        | inr (inr more) ↦ absurd (rising ms i j d ascends lt in_range more)
      ]
  | inr ge ↦
      let same : j ≡ i = omega arith in
      rw (← same) before
]

other_before : (family : List ℕ) (m : Member) → is_before family m ≡ true → of_family family m ≡ false
other_before family m before = ap is_eq (Less-from_is_lt (id_cmp m.key.family family) before)

greater_of : (o : Ordering) → is_lt o ≡ false → is_eq o ≡ false → o ≡ Greater
greater_of Less lt eq = cc
greater_of Equal lt eq = cc
greater_of Greater lt eq = refl

-- after a member of a later family are no members of this one
other_behind : (family : List ℕ) (ms : List Member) (i j : ℕ) (d : Member) → IsAscending member_cmp member_key ms
    → i < j → j < length ms → id_cmp (family_at ms i d) family ≡ Greater → of_family family (get_or ms j d) ≡ false
other_behind family ms i j d ascends lt in_range later =
    let f = family_at ms i d in
    let g = family_at ms j d in
    let over : id_cmp family f ≡ Less = Less-from_Greater id_cmp id_total (λ (t : List ℕ). t) f family later in
    let less : id_cmp family g ≡ Less = elim (cases_Ordering (id_cmp f g)) [
      | inl first ↦ id_total.trans family f g over first
      | inr (inl tied) ↦ sym (alike_right id_total f g family tied) ∙ over
      | inr (inr more) ↦ absurd (rising ms i j d ascends lt in_range more)
    ] in
    ap is_eq (Greater-from_Less id_cmp id_total (λ (t : List ℕ). t) family g less)

abbrev pub IsPoint : List ℕ → List Member → ℕ → Type 0
IsPoint family ms i = IsPartitionPoint (λ m. is_before family m ≡ true) (λ m. is_before family m ≡ false) ms i

-- the first member that isn't before decides
pub first_tells : (family : List ℕ) (ms : List Member) (i : ℕ) (d : Member) → IsAscending member_cmp member_key ms
    → IsPoint family ms i → i < length ms → of_family family (get_or ms i d) ≡ list_any (of_family family) ms
first_tells family ms i d ascends point in_range = elim (cases_Bool (of_family family (get_or ms i d))) [
  | inl here ↦ here ∙ sym (list_any_at (of_family family) ms i d in_range here)
  | inr other ↦
      let later : id_cmp (family_at ms i d) family ≡ Greater =
      greater_of _ (point.1 i d (omega arith) in_range) other in
      let none : All (λ m. of_family family m ≡ false) ms = All-from_get_or (λ m. of_family family m ≡ false) ms d
      (λ j lt. elim (cases_lt j i) [
        | inl before ↦ other_before family (get_or ms j d) (point.0 j d (omega arith) before)
        | inr ge ↦ elim (cases_lt i j) [
          | inl behind ↦ other_behind family ms i j d ascends behind lt later
          | inr le ↦ let same : i ≡ j = omega arith in rw (← same) other
        ]
      ]) in
      other ∙ sym (list_any_none (of_family family) ms none)
]

-- where each is before there is none
pub all_before : (family : List ℕ) (ms : List Member) (i : ℕ) → IsPoint family ms i → length ms ≤ i
    → false ≡ list_any (of_family family) ms
all_before family ms i point over =
    sym (list_any_none (of_family family) ms
    (λ j d lt. other_before family (get_or ms j d) (point.0 j d (omega arith) (omega arith))))
