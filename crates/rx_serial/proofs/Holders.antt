-- A member is known by the place in the list.
use Rattle.std.specs.Prelude.{◌&&◌, ◌==◌}
use Rattle.std.proofs.Common.{◌≡◌, ℕ, zero, suc, ◌<◌, true, false, List, [], ◌∷◌, length}
use Rattle.std.proofs.Common.{get_or, refl, sym, ap, subst, ◌∙◌, inl, inr, arith}
use Rattle.std.specs.Ordering.{is_eq}
use Rattle.std.proofs.lemmas.Cmp.{tied_itself}
use Rattle.std.proofs.lemmas.Bool.{cases_Bool, and_parts}
use Rattle.std.proofs.lemmas.Bool.Decides.{Decides-eqb}
use Rattle.rx_sorted.specs.Ascending.{IsAscending, IsAt, has_key}
use Rattle.rx_sorted.proofs.Keys.{Equal-from_is_eq}
use Rattle.rx_sorted.proofs.Places.{has_key-elsewhere}
use Rattle.rx_ledger.specs.declared.member.Member.{Member}
use Rattle.rx_ledger.specs.declared.member.MemberKey.{MemberKey}
use Rattle.rx_ledger.specs.declared.row.Row.{Row}
use Rattle.rx_ledger.specs.Members.{is_same, member_cmp, member_key}
use Rattle.rx_ledger.specs.Rows.{member_of_row}
use Rattle.rx_ledger.proofs.Orders.{id_exact, id_total, member_exact, member_total}
use Rattle.rx_serial.specs.Fills.{fill_at, fill_of, holder_of}
use Rattle.rx_serial.proofs.Counting.{true_both}

-- a list's own place of a key is where the key is
pub holder_is : (ms : List Member) (k : MemberKey) (i : ℕ) → IsAscending member_cmp member_key ms
    → IsAt member_cmp member_key ms k i → holder_of ms k ≡ i
holder_is [] k i rise at = absurd (omega (arith, at.in_range))
holder_is (m ∷ ms) k zero rise at =
    let here : has_key member_cmp member_key k m ≡ true = ap is_eq (at.has_it m) in
    rw here refl
holder_is (m ∷ ms) k (suc i) rise at =
    let other : has_key member_cmp member_key k m ≡ false =
    has_key-elsewhere member_cmp member_total member_key (m ∷ ms) k (suc i) rise at 0 m (omega arith) (omega arith) in
    let next : IsAt member_cmp member_key ms k i = record { in_range = omega (arith, at.in_range); has_it = λ d. at.has_it d } in
    let rest = holder_is ms k i rise.1 next in
    rw other (omega (arith, rest))

-- where the key's place is in the list, its member is there
has_holder : (ms : List Member) (k : MemberKey) (d : Member) → holder_of ms k < length ms
    → has_key member_cmp member_key k (get_or ms (holder_of ms k) d) ≡ true
has_holder [] k d within = absurd (omega (arith, within))
has_holder (m ∷ ms) k d within = elim (cases_Bool (has_key member_cmp member_key k m)) [
  | inl here ↦ rw here here
  | inr other ↦
      let inside : holder_of ms k < length ms = let w = rw other at within in omega (arith, w) in
      rw other (has_holder ms k d inside)
]

module _ (ms : List Member) (a b : MemberKey) (i : ℕ) (rise : IsAscending member_cmp member_key ms)
    (at : IsAt member_cmp member_key ms b i) where
  -- who is at the place of a member is that member
  same_holder : holder_of ms a ≡ i → a ≡ b
  same_holder same =
      let m : Member = record {
        key = a;
        coverage = record {
          first = record { year = 0; month = 0; day = 0 };
          last = record { year = 0; month = 0; day = 0 };
        };
      } in
      let there = has_holder ms a m (omega (arith, same, at.in_range)) in
      let at_i : has_key member_cmp member_key a (get_or ms i m) ≡ true =
      subst (λ j. has_key member_cmp member_key a (get_or ms j m) ≡ true) same there in
      sym (member_exact (get_or ms i m).key a (Equal-from_is_eq _ at_i)) ∙ member_exact (get_or ms i m).key b (at.has_it m)

  -- so places are compared in place of families and persons
  pub by_holder : (holder_of ms a == i) ≡ (is_same a.family b.family && is_same a.person b.person)
  by_holder = true_both _ _
      (λ t. let same = same_holder ((Decides-eqb (holder_of ms a) i).0 t) in
      rw (ap (λ (k : MemberKey). k.family) same, ap (λ (k : MemberKey). k.person) same) (same_itself b))
      (λ t. let parts = and_parts (is_same a.family b.family) (is_same a.person b.person) t in
      let family = id_exact a.family b.family (Equal-from_is_eq _ parts.0) in
      let person = id_exact a.person b.person (Equal-from_is_eq _ parts.1) in
      let same : a ≡ b = λ j. record { family = family j; person = person j } in
      (Decides-eqb (holder_of ms a) i).1 (ap (holder_of ms) same ∙ holder_is ms b i rise at))
    where
      same_itself : (k : MemberKey) → (is_same k.family k.family && is_same k.person k.person) ≡ true
      same_itself k = rw (tied_itself id_total k.family, tied_itself id_total k.person) refl

-- the fill of a row, by the place of its member
pub at_row : (ms : List Member) (r : Row) (i : ℕ) → IsAscending member_cmp member_key ms
    → IsAt member_cmp member_key ms (member_of_row r) i → fill_at i r ≡ fill_of ms r
at_row ms r i rise at = ap (λ h. fill_at h r) (sym (holder_is ms (member_of_row r) i rise at))
