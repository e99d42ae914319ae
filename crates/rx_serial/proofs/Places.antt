-- What stands at a place that was looked up.
use Rattle.std.proofs.Common.{◌≡◌, ℕ, ◌<◌, true, List, length, get_or, Option, Some, None, refl, sym, ap, subst, ◌∙◌, inl, inr, arith}
use Rattle.std.specs.Prelude.{is_some, slice_get}
use Rattle.std.specs.List.{Contains}
use Rattle.std.specs.Ordering.{is_eq}
use Rattle.std.proofs.lemmas.Cmp.{tied_itself}
use Rattle.std.proofs.lemmas.List.{get_or_default}
use Rattle.std.proofs.lemmas.List.Folds.{list_any_at}
use Rattle.std.proofs.lemmas.Option.{same_Some, slice_get_cases}
use Rattle.rx_fields.specs.Order.{key_cmp}
use Rattle.rx_fields.specs.declared.key.Key.{Key}
use Rattle.rx_sorted.specs.Ascending.{IsAt, item_at}
use Rattle.rx_sorted.proofs.LookUps.{item_at-found}
use Rattle.rx_sorted.proofs.Places.{IsAt-itself, contains_key-at}
use Rattle.rx_ledger.specs.declared.member.Member.{Member}
use Rattle.rx_ledger.specs.declared.member.MemberKey.{MemberKey}
use Rattle.rx_ledger.specs.Ledger.{Ledger, is_listed}
use Rattle.rx_ledger.specs.Members.{is_same, member_cmp, member_key, of_family}
use Rattle.rx_books_store.specs.LedgerBooks.{has_members}
use Rattle.rx_ledger.proofs.Orders.{id_total, key_exact, key_total, member_exact, member_total}
use Rattle.rx_serial.specs.Underway.{is_named}

-- a key that is named is among the keys
found_key : (keys : List Key) (k : Key) (o : Option Key) → item_at key_cmp (λ x. x) keys k ≡ o → is_some o ≡ true
    → Contains keys k
found_key keys k None is there = absurd (let e = there in cc)
found_key keys k (Some x) is there =
    let found = item_at-found key_cmp key_total (λ (y : Key). y) keys k x is in
    subst (Contains keys) (key_exact x k found.1) found.0

pub named_there : (keys : List Key) (k : Key) → is_named keys k ≡ true → Contains keys k
named_there keys k there = found_key keys k (item_at key_cmp (λ x. x) keys k) refl there

-- the member at the place of a key
pub record IsMemberAt (members : List Member) (k : MemberKey) (i : ℕ) : Type 0 where
  pub member : Member
  pub at : slice_get members i ≡ Some member
  pub read : get_or members i member ≡ member
  pub keyed : member.key ≡ k

pub member_at_key : (members : List Member) (k : MemberKey) (i : ℕ) → IsAt member_cmp member_key members k i
    → IsMemberAt members k i
member_at_key members k i is_at = elim (slice_get_cases members i).1 [
  | inl w ↦
      let (m, in_range, at, read) = w in
      record {
        member = m;
        at = at;
        read = read;
        keyed = member_exact m.key k (subst (λ (x : Member). member_cmp x.key k ≡ _) read (is_at.has_it m));
      }
  | inr past ↦ absurd (omega (arith, past.0, is_at.in_range))
]

-- ---- a member at a place, by what it is compared with

module _ (L : Ledger) (i : ℕ) (m : Member) (at : slice_get L.members i ≡ Some m) where
  there : (i < length L.members) × (get_or L.members i m ≡ m)
  there = elim (slice_get_cases L.members i).1 [
    | inl w ↦
        let (x, in_range, is, read) = w in
        let same : x ≡ m = same_Some x m (sym is ∙ at) in
        (in_range, get_or_default L.members i m x in_range ∙ read ∙ same)
    | inr past ↦ absurd (let e : None ≡ Some m = sym past.1 ∙ at in cc)
  ]

  -- the place of a key
  pub is_place : (k : MemberKey) → m.key ≡ k → IsAt member_cmp member_key L.members k i
  is_place k same =
      subst (λ (j : MemberKey). IsAt member_cmp member_key L.members j i)
      (ap (λ (x : Member). x.key) there.1 ∙ same)
      (IsAt-itself member_cmp member_total member_key L.members i m there.0)

  -- a listed member
  pub is_listed_there : (k : MemberKey) → m.key ≡ k → is_listed L k ≡ true
  is_listed_there k same = contains_key-at member_cmp member_total member_key L.members k i (is_place k same)

  -- a family with a member
  pub has_member_there : (family : List ℕ) → m.key.family ≡ family → has_members L family ≡ true
  has_member_there family same =
      list_any_at (of_family family) L.members i m there.0
      (ap (λ (x : Member). of_family family x) there.1
      ∙ ap (λ f. is_same f family) same ∙ ap is_eq (tied_itself id_total family))
