-- Whether two books are one, where their parts are compared one after another.
use Rattle.std.proofs.Common.{◌≡◌, Bool, true, false, Option, Some, None, Decides, refl, sym, ap, ◌∙◌}
use Rattle.std.proofs.lemmas.Bool.Decides.{Decides-and, Decides-at, Decides-like}
use Rattle.std.specs.Option.{option_eq}
use Rattle.rx_ledger.specs.declared.row.Row.{Row}
use Rattle.rx_ledger.specs.contracts.row.RowPartialEq.TheImpl.{ghosts as row}
use Rattle.rx_ledger.proofs.Decided.{key_decides, row_decides}
use Rattle.rx_books_family.specs.declared.key_book.KeyBook.{KeyBook}
use Rattle.rx_books_family.specs.contracts.key_book.KeyBookPartialEq.TheImpl.{ghosts as key_book}
use Rattle.rx_books_family.specs.FamilyBook.{FamilyBook}

-- both tests, the second made only where the first holds
pub both_hold : {P Q : Type 0} (a b v : Bool) → Decides a P → a ≡ true → Decides b Q → v ≡ b → Decides v (P × Q)
both_hold {P} {Q} a b v first holds second is =
    Decides-like v (λ q. (first.0 holds, q)) (λ pq. pq.1) (Decides-at v b is second)

pub first_fails : {P Q : Type 0} (a v : Bool) → Decides a P → a ≡ false → v ≡ a → Decides v (P × Q)
first_fails {P} {Q} a v first fails is = (
  λ t. absurd (let e : false ≡ true = sym fails ∙ sym is ∙ t in cc),
  λ pq. absurd (let e : false ≡ true = sym fails ∙ first.1 pq.0 in cc),
)

-- two books whose heads and members were compared first, and then their rows
abbrev SameHeads : FamilyBook → FamilyBook → Type 0
SameHeads a b = ((a.family ≡ b.family) × (a.period ≡ b.period)) × (a.members ≡ b.members)

pub same_book : (a b : FamilyBook) (heads rows : Bool) → Decides heads (SameHeads a b) → heads ≡ true
    → Decides rows (a.rows ≡ b.rows) → Decides rows (a ≡ b)
same_book a b heads rows same holds decides =
    let h = same.0 holds in
    Decides-like rows
    (λ r i. record { family = h.0.0 i; period = h.0.1 i; members = h.1 i; rows = r i })
    (λ e. ap (λ (x : FamilyBook). x.rows) e)
    decides

pub other_book : (a b : FamilyBook) (heads : Bool) → Decides heads (SameHeads a b) → heads ≡ false → Decides heads (a ≡ b)
other_book a b heads same fails = (
  λ t. absurd (let e : false ≡ true = sym fails ∙ t in cc),
  λ e. same.1 ((ap (λ (x : FamilyBook). x.family) e, ap (λ (x : FamilyBook). x.period) e), ap (λ (x : FamilyBook). x.members) e),
)

row_or_none_decides : (o p : Option Row) → Decides (option_eq row.eq o p) (o ≡ p)
row_or_none_decides None None = (λ e. refl, λ e. refl)
row_or_none_decides None (Some s) = (λ e. cc, λ e. cc)
row_or_none_decides (Some r) None = (λ e. cc, λ e. cc)
row_or_none_decides (Some r) (Some s) = Decides-like (row.eq r s) (ap Some) (λ e. cc) (row_decides r s)

pub key_book_decides : (a b : KeyBook) → Decides (key_book.eq a b) (a ≡ b)
key_book_decides a b =
    Decides-like
    (key_book.eq a b)
    (λ h i. record { key = h.0 i; row = h.1 i })
    (λ e. (cc, cc))
    (Decides-and _ _ (key_decides a.key b.key) (row_or_none_decides a.row b.row))
