-- A billing that is paid is of a listed member, and its fill key was free.
use Rattle.std.proofs.Common.{◌≡◌, ℕ, true, false, List, [], ◌∷◌, Option, Some, None, IsSome, refl, ap, inl, inr}
use Rattle.std.specs.Prelude.{is_some}
use Rattle.std.specs.List.{filter}
use Rattle.std.specs.Ordering.{is_eq, ordering_then}
use Rattle.std.specs.declared.cmp.Ordering.{Ordering}
use Rattle.std.specs.declared.cmp.Ordering.TheVariants.{Less, Equal, Greater}
use Rattle.std.proofs.lemmas.Bool.{cases_Bool}
use Rattle.rx_d0_values.specs.declared.bill.BillParts.{BillParts}
use Rattle.rx_d0_values.specs.declared.reply.Answer.TheVariants.{Paid}
use Rattle.rx_d0_values.specs.declared.reply.Paid.{Paid as PaidParts}
use Rattle.rx_d0_values.specs.declared.transaction.Transaction.TheVariants.{Bill}
use Rattle.rx_sorted.specs.Ascending.{contains_key, has_key}
use Rattle.rx_ledger.specs.declared.member.Member.{Member}
use Rattle.rx_ledger.specs.declared.member.MemberKey.{MemberKey}
use Rattle.rx_ledger.specs.Answers.{answer}
use Rattle.rx_ledger.specs.Decisions.{Asked, key_of}
use Rattle.rx_ledger.specs.Ledger.{Ledger, is_taken, members_of}
use Rattle.rx_ledger.specs.Members.{is_same, member_cmp, member_key, of_family, person_in}
use Rattle.rx_ledger.proofs.PaidShape.{paid_new}

-- two keys tie where their parts do
tied-both : (p q : Ordering) → is_eq p ≡ true → is_eq q ≡ true → is_eq (ordering_then p q) ≡ true
tied-both Equal q e f = f
tied-both Less q e f = cc
tied-both Greater q e f = cc

-- who has the person code among those of the family is listed under both
pub listed_by-person : (ms : List Member) (family person : List ℕ) (m : Member)
    → person_in (filter (of_family family) ms) person ≡ Some m
    → contains_key member_cmp member_key ms (record { family = family; person = person }) ≡ true
listed_by-person [] family person m found = cc
listed_by-person (x ∷ xs) family person m found =
    let k : MemberKey = record { family = family; person = person } in
    elim (cases_Bool (has_key member_cmp member_key k x)) [
      | inl here ↦ rw here refl
      | inr other ↦ rw other (elim (cases_Bool (of_family family x)) [
        | inl own ↦ elim (cases_Bool (is_same x.key.person person)) [
          | inl same ↦
              let tied : has_key member_cmp member_key k x ≡ true = tied-both _ _ own same in
              cc
          | inr different ↦ listed_by-person xs family person m (rw (own, different) at found)
        ]
        | inr stranger ↦ listed_by-person xs family person m (rw stranger at found)
      ])
    ]

listed-found : (L : Ledger) (family person : List ℕ) (found : Option Member)
    → person_in (members_of L family) person ≡ found
    → IsSome found → contains_key member_cmp member_key L.members (record { family = family; person = person }) ≡ true
listed-found L family person None e h = cc
listed-found L family person (Some m) e h = listed_by-person L.members family person m e

pub paid-listed : (a : Asked) (L : Ledger) (b : BillParts) (p : PaidParts) → answer a L (Bill b) ≡ Paid p
    → contains_key member_cmp member_key L.members (record { family = b.family; person = b.person }) ≡ true
paid-listed a L b p paid =
    listed-found L b.family b.person (person_in (members_of L b.family) b.person) refl (paid_new a L b p paid).person

pub paid-free : (a : Asked) (L : Ledger) (b : BillParts) (p : PaidParts) → answer a L (Bill b) ≡ Paid p
    → is_taken L (key_of a b.reference) ≡ false
paid-free a L b p paid = ap is_some (paid_new a L b p paid).free
