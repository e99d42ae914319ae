-- The kinds of the changes, counted.
use Rattle.std.proofs.Common.{◌≡◌, ◌+◌, List, [], ◌∷◌, Bool, cond, map, Option, Some, None, refl, sym, ap, ◌∙◌, inl, inr}
use Rattle.std.specs.List.{count_by}
use Rattle.std.proofs.lemmas.Bool.{cases_Bool}
use Rattle.std.proofs.lemmas.List.Sums.{sum_by-cons}
use Rattle.rx_ledger.specs.contracts.member.MemberPartialEq.TheImpl.{ghosts as member}
use Rattle.rx_ledger.specs.declared.member.Member.{Member}
use Rattle.rx_ledger.specs.Ledger.{Ledger}
use Rattle.rx_books_upkeep.specs.declared.change.MemberChange.{MemberChange}
use Rattle.rx_books_upkeep.specs.ChangeKinds.{came_in, changed, counts_in, stayed}
use Rattle.rx_books_upkeep.specs.Loading.{change_of, changes, changes_of, comes_in, counts_of, member_in, stays}

counted_map : (p : MemberChange → Bool) (q : Member → Bool) (g : Member → MemberChange) → ((m : Member) → p (g m) ≡ q m)
    → (ms : List Member) → count_by p (map g ms) ≡ count_by q ms
counted_map p q g same [] = refl
counted_map p q g same (m ∷ ms) =
    sum_by-cons (λ c. cond (p c) 1 0) (g m) (map g ms)
    ∙ ap (λ b. cond b 1 0 + count_by p (map g ms)) (same m)
    ∙ ap (λ n. cond (q m) 1 0 + n) (counted_map p q g same ms)
    ∙ sym (sum_by-cons (λ x. cond (q x) 1 0) m ms)

module _ (L : Ledger) where
  abbrev with_change : Member → MemberChange
  with_change m = record { member = m; change = change_of L m }

  comes : (m : Member) (o : Option Member) → member_in L.members m.key ≡ o → came_in (with_change m) ≡ comes_in L m
  comes m None is = rw is refl
  comes m (Some own) is = elim (cases_Bool (member.eq own m)) [ inl same ↦ rw (is, same) refl | inr other ↦ rw (is, other) refl ]

  stays_on : (m : Member) (o : Option Member) → member_in L.members m.key ≡ o → stayed (with_change m) ≡ stays L m
  stays_on m None is = rw is refl
  stays_on m (Some own) is = elim (cases_Bool (member.eq own m)) [ inl same ↦ rw (is, same) refl | inr other ↦ rw (is, other) refl ]

  turns : (m : Member) (o : Option Member) → member_in L.members m.key ≡ o → changed (with_change m) ≡ changes L m
  turns m None is = rw is refl
  turns m (Some own) is = elim (cases_Bool (member.eq own m)) [ inl same ↦ rw (is, same) refl | inr other ↦ rw (is, other) refl ]

  pub counted : (table : List Member) → counts_in (changes_of L table) ≡ counts_of L table
  counted table = λ i. record {
    came_in = counted_map came_in (comes_in L) with_change (λ m. comes m (member_in L.members m.key) refl) table i;
    changed = counted_map changed (changes L) with_change (λ m. turns m (member_in L.members m.key) refl) table i;
    stayed = counted_map stayed (stays L) with_change (λ m. stays_on m (member_in L.members m.key) refl) table i;
  }
