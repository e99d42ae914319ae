-- Whether two books are one: the period and the members are compared, and then the rows, one by one.
use Rattle.std.proofs.Common.{◌≡◌, List, ◌∷◌, Bool, true, false, Decides, refl, sym, ap, ◌∙◌}
use Rattle.std.specs.Prelude.{◌↔◌, not}
use Rattle.std.proofs.lemmas.Bool.Decides.{Decides-like}
use Rattle.rx_ledger.specs.declared.row.Row.{Row}
use Rattle.rx_books_store.specs.LedgerBooks.{LedgerBooks}

-- where the first rows are the same, the lists are where their rests are
pub rests_decide : (P : Type 0) (ours theirs os ts : List Row) (r s : Row) → ours ≡ r ∷ os → theirs ≡ s ∷ ts → r ≡ s
    → (ours ≡ theirs) ↔ P → (os ≡ ts) ↔ P
rests_decide P ours theirs os ts r s one two same so_far = (
  λ e. so_far.0 (one ∙ (λ i. same i ∷ e i) ∙ sym two),
  λ p. let h : r ∷ os ≡ s ∷ ts = sym one ∙ so_far.1 p ∙ two in cc,
)

pub from_not : (b : Bool) → false ≡ not b → b ≡ true
from_not true h = refl
from_not false h = cc

-- the heads of two books
abbrev pub SameHeads : LedgerBooks → LedgerBooks → Type 0
SameHeads a b = (a.period ≡ b.period) × (a.ledger.members ≡ b.ledger.members)

pub rows_tell : (a b : LedgerBooks) (heads rows : Bool) → Decides heads (SameHeads a b) → heads ≡ true
    → Decides rows (a.ledger.rows ≡ b.ledger.rows) → Decides rows (a ≡ b)
rows_tell a b heads rows same holds decides =
    let h = same.0 holds in
    Decides-like rows
    (λ r i. record { period = h.0 i; ledger = record { members = h.1 i; rows = r i } })
    (λ e. ap (λ (x : LedgerBooks). x.ledger.rows) e)
    decides

pub heads_tell : (a b : LedgerBooks) (heads : Bool) → Decides heads (SameHeads a b) → heads ≡ false → Decides heads (a ≡ b)
heads_tell a b heads same fails = (
  λ t. absurd (let e : false ≡ true = sym fails ∙ t in cc),
  λ e. same.1 (ap (λ (x : LedgerBooks). x.period) e, ap (λ (x : LedgerBooks). x.ledger.members) e),
)
