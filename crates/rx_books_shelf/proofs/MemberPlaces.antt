-- The member at a place that was looked up.
use Rattle.std.proofs.Common.{◌≡◌, ℕ, List, Some, subst, inl, inr, arith}
use Rattle.std.specs.Prelude.{slice_get}
use Rattle.std.proofs.lemmas.Option.{slice_get_cases}
use Rattle.rx_sorted.specs.Ascending.{IsAt}
use Rattle.rx_ledger.specs.declared.member.Member.{Member}
use Rattle.rx_ledger.specs.declared.member.MemberKey.{MemberKey}
use Rattle.rx_ledger.specs.Members.{member_cmp, member_key}
use Rattle.rx_ledger.proofs.Orders.{member_exact}

pub record IsMemberAt (members : List Member) (k : MemberKey) (i : ℕ) : Type 0 where
  pub member : Member
  pub at : slice_get members i ≡ Some member
  pub keyed : member.key ≡ k

pub member_at_key : (members : List Member) (k : MemberKey) (i : ℕ) → IsAt member_cmp member_key members k i → IsMemberAt members k i
member_at_key members k i is_at = elim (slice_get_cases members i).1 [
  | inl w ↦
      let (m, in_range, at, read) = w in
      record {
        member = m;
        at = at;
        keyed = member_exact m.key k (subst (λ (x : Member). member_cmp x.key k ≡ _) read (is_at.has_it m));
      }
  | inr past ↦ absurd (omega (arith, past.0, is_at.in_range))
]
