-- A family with a listed person has a member.
use Rattle.std.proofs.Common.{◌≡◌, ◌<◌, List, [], ◌∷◌, length, Bool, true, false, Option, Some, None, refl, sym, ap, ◌∙◌, inl, inr, arith}
use Rattle.std.specs.List.{Contains, filter, list_any}
use Rattle.std.specs.Option.{is_some}
use Rattle.std.specs.Ordering.{is_eq}
use Rattle.std.proofs.lemmas.Bool.{cases_Bool}
use Rattle.std.proofs.lemmas.Cmp.{tied_itself}
use Rattle.rx_sorted.specs.Ascending.{item_at}
use Rattle.rx_sorted.proofs.Filters.{Contains-filter_kept}
use Rattle.rx_sorted.proofs.LookUps.{item_at-found}
use Rattle.rx_ledger.specs.declared.member.Member.{Member}
use Rattle.rx_ledger.specs.declared.member.MemberKey.{MemberKey}
use Rattle.rx_ledger.specs.Ledger.{Ledger, is_listed}
use Rattle.rx_ledger.specs.Members.{is_same, member_cmp, member_key, of_family}
use Rattle.rx_ledger.proofs.Orders.{id_total, member_exact, member_total}
use Rattle.rx_books_store.specs.LedgerBooks.{has_members}

pub some_pass : {X : Type 0} (p : X → Bool) (xs : List X) → 0 < length (filter p xs) → list_any p xs ≡ true
some_pass p [] some = absurd (omega arith)
some_pass p (x ∷ xs) some = elim (cases_Bool (p x)) [
  | inl t ↦ rw t
  | inr f ↦ rw f (some_pass p xs (rw f at some))
]

-- a family with a listed person has a member
pub listed-has_members : (L : Ledger) (k : MemberKey) → is_listed L k ≡ true → has_members L k.family ≡ true
listed-has_members L k = by_member (item_at member_cmp member_key L.members k) refl
  where
    use_place : (ms : List Member) (m : Member) → Contains ms m → of_family k.family m ≡ true → list_any (of_family k.family) ms ≡ true
    use_place ms m among theirs = some_pass (of_family k.family) ms
        (let kept = Contains-filter_kept (of_family k.family) ms m among theirs in omega (arith, kept.1))

    by_member : (o : Option Member) → item_at member_cmp member_key L.members k ≡ o → is_listed L k ≡ true → has_members L k.family ≡ true
    by_member None found listed = absurd (let e : false ≡ true = sym (ap is_some found) ∙ listed in cc)
    by_member (Some m) found listed =
        let at = item_at-found member_cmp member_total member_key L.members k m found in
        let same : m.key ≡ k = member_exact m.key k at.1 in
        use_place L.members m at.0 (ap (λ (j : MemberKey). is_same j.family k.family) same ∙ ap is_eq (tied_itself id_total k.family))
