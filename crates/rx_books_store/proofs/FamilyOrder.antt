-- The families of ascending members: ascending, and each that has a member.
use Rattle.std.proofs.Common.{◌≡◌, ℕ, suc, List, [], ◌∷◌, true, false, not, refl, sym, ap, ◌∙◌, inl, inr, arith}
use Rattle.std.specs.Prelude.{◌⊎◌}
use Rattle.std.specs.List.{All, Contains, filter, list_any}
use Rattle.std.specs.Ordering.{is_eq, ordering_then}
use Rattle.std.specs.declared.cmp.Ordering.{Ordering}
use Rattle.std.specs.declared.cmp.Ordering.TheVariants.{Less, Equal, Greater}
use Rattle.std.proofs.lemmas.Bool.{cases_Bool}
use Rattle.std.proofs.lemmas.Cmp.{tied_back}
use Rattle.std.proofs.lemmas.List.Elements.{All-cons, All-filter, All-head, All-nil, All-tail}
use Rattle.rx_fields.specs.Order.{id_cmp}
use Rattle.rx_sorted.specs.Ascending.{IsAscending, IsBelow}
use Rattle.rx_sorted.proofs.Filters.{Contains-filter_kept}
use Rattle.rx_sorted.proofs.Kept.{IsAscending-filter}
use Rattle.rx_sorted.proofs.Keys.{Equal-from_is_eq, is_eq-turned}
use Rattle.rx_ledger.specs.declared.member.Member.{Member}
use Rattle.rx_ledger.specs.declared.member.MemberKey.{MemberKey}
use Rattle.rx_ledger.specs.Members.{is_same, member_cmp, member_key, of_family}
use Rattle.rx_ledger.proofs.Orders.{id_exact, id_total}
use Rattle.rx_books_store.specs.BooksText.{families_of}

-- a family is found by itself
abbrev pub itself : List ℕ → List ℕ
itself f = f

-- the family itself, or one after it
abbrev NotBefore : List ℕ → List ℕ → Type 0
NotBefore k f = (id_cmp k f ≡ Less) ⊎ (id_cmp k f ≡ Equal)

-- what holds of each member's family holds of each family
pub all_families : (P : List ℕ → Type 0) (ms : List Member) → All (λ m. P m.key.family) ms → All P (families_of ms)
all_families P [] all = All-nil P
all_families P (m ∷ ms) all =
    All-cons P m.key.family (filter (λ f. not (is_same f m.key.family)) (families_of ms))
    (All-head (λ (n : Member). P n.key.family) m ms all)
    (All-filter (λ f. not (is_same f m.key.family)) P (families_of ms)
    (all_families P ms (All-tail (λ (n : Member). P n.key.family) m ms all)))

then_less : (o q : Ordering) → ordering_then o q ≡ Less → (o ≡ Less) ⊎ (o ≡ Equal)
then_less Less q is = inl refl
then_less Equal q is = inr refl
then_less Greater q is = absurd cc

not_before : (k : MemberKey) (ms : List Member) → IsBelow member_cmp member_key k ms
    → All (λ m. NotBefore k.family m.key.family) ms
not_before k [] below = All-nil (λ (m : Member). NotBefore k.family m.key.family)
not_before k (m ∷ ms) below = All-cons (λ (n : Member). NotBefore k.family n.key.family) m ms
    (then_less (id_cmp k.family m.key.family) (id_cmp k.person m.key.person) below.0) (not_before k ms below.1)

others_behind : (k : List ℕ) (fs : List (List ℕ)) → All (NotBefore k) fs
    → IsBelow id_cmp itself k (filter (λ f. not (is_same f k)) fs)
others_behind k [] all = tt
others_behind k (f ∷ fs) all = elim (cases_Bool (is_same f k)) [
  | inl same ↦ rw same (others_behind k fs (All-tail (NotBefore k) f fs all))
  | inr other ↦
      let less : id_cmp k f ≡ Less = elim (All-head (NotBefore k) f fs all) [
        | inl behind ↦ behind
        | inr tied ↦ absurd (let e : true ≡ false = sym (ap is_eq (tied_back id_total k f tied)) ∙ other in cc)
      ] in
      rw other (less, others_behind k fs (All-tail (NotBefore k) f fs all))
]

pub families_rise : (ms : List Member) → IsAscending member_cmp member_key ms → IsAscending id_cmp itself (families_of ms)
families_rise [] rise = tt
families_rise (m ∷ ms) rise = (
  others_behind m.key.family (families_of ms)
      (all_families (NotBefore m.key.family) ms (not_before m.key ms rise.0)),
  IsAscending-filter id_cmp id_total itself (λ f. not (is_same f m.key.family)) (families_of ms) (families_rise ms rise.1),
)

-- a family that has a member is among them
pub family_among : (ms : List Member) (f : List ℕ) → list_any (of_family f) ms ≡ true → Contains (families_of ms) f
family_among [] f has = absurd cc
family_among (m ∷ ms) f has = elim (cases_Bool (of_family f m)) [
  | inl theirs ↦ (0, omega arith, id_exact m.key.family f (Equal-from_is_eq _ theirs))
  | inr other ↦
      let rest = family_among ms f (rw other at has) in
      let apart : is_same f m.key.family ≡ false =
      is_eq-turned (id_cmp m.key.family f) (id_cmp f m.key.family) (id_total.antisymm f m.key.family) other in
      let kept = Contains-filter_kept (λ g. not (is_same g m.key.family)) (families_of ms) f rest (ap not apart) in
      (suc kept.0, omega (arith, kept.1), kept.2)
]
