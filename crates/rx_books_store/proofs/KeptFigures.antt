-- What is read off kept books, in the words of their ledger.
use Rattle.std.proofs.Common.{◌≡◌, ℕ, List, [], ◌∷◌, Bool, inl, inr, refl, ap, ◌∙◌, arith}
use Rattle.std.specs.Prelude.{◌&&◌, IfSome, slice_get}
use Rattle.std.specs.List.{list_all}
use Rattle.std.proofs.lemmas.Option.{slice_get_cases}
use Rattle.rx_sorted.specs.Ascending.{IsAt}
use Rattle.rx_ledger.specs.declared.member.MemberKey.{MemberKey}
use Rattle.rx_ledger.specs.Members.{member_cmp, member_key}
use Rattle.rx_ledger.specs.Sums.{deductible}
use Rattle.rx_books_store.specs.declared.opening.FamilyName.{FamilyName}
use Rattle.rx_books_store.specs.LedgerBooks.{LedgerBooks}
use Rattle.rx_books_store.specs.Opening.{names_of}
use Rattle.rx_books_store.proofs.Stored.{member-get}

-- a member's deductible, found by the place
pub deductible-told : (b : LedgerBooks) (k : MemberKey) (at n : ℕ) → IsAt member_cmp member_key b.ledger.members k at
    → IfSome (slice_get b.ledger.members at) (λ m. n ≡ deductible b.period b.ledger m.key.family m.key.person)
    → n ≡ deductible b.period b.ledger k.family k.person
deductible-told b k at n is_at told = elim (slice_get_cases b.ledger.members at).1 [
  | inl here ↦
      let same : here.0.key ≡ k = member-get b.ledger.members k at here.0 is_at here.2 in
      let read : n ≡ deductible b.period b.ledger here.0.key.family here.0.key.person = rw here.2 at told in
      read ∙ ap (λ (j : MemberKey). deductible b.period b.ledger j.family j.person) same
  | inr past ↦ absurd (omega (arith, is_at.in_range, past.0))
]

-- a test of each family, by its name
pub list_all-names : (p : List ℕ → Bool) (ns : List FamilyName) → list_all (λ n. p n.family) ns ≡ list_all p (names_of ns)
list_all-names p [] = refl
list_all-names p (n ∷ ns) = ap (λ b. p n.family && b) (list_all-names p ns)
