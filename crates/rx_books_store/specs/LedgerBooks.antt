-- Meaning: all books: a ledger, and the figures that are looked up in it.
use Rattle.std.specs.Prelude.{ℕ, Bool, List, Option, Some, None, if◌then◌else◌}
use Rattle.std.specs.List.{list_any}
use Rattle.rx_fields.specs.Numbered.{Span}
use Rattle.rx_ledger.specs.Ledger.{Ledger, is_listed}
use Rattle.rx_ledger.specs.Members.{of_family}
use Rattle.rx_ledger.specs.Sums.{deductible, family_deductible, out_of_pocket}

-- a ledger, and the period that the totals are of
pub record LedgerBooks : Type 0 where
  pub period : Span
  pub ledger : Ledger

-- the family has a member
abbrev pub has_members : Ledger → List ℕ → Bool
has_members L family = list_any (of_family family) L.members

-- ---- look-ups

-- the deductible of a person, where that is a listed member
abbrev pub deductible_of_member : LedgerBooks → List ℕ → List ℕ → Option ℕ
deductible_of_member b family person =
    if is_listed b.ledger (record { family = family; person = person })
    then Some (deductible b.period b.ledger family person) else None

-- the out of pocket and the deductible of a family, where it has a member
abbrev pub out_of_pocket_of_family : LedgerBooks → List ℕ → Option ℕ
out_of_pocket_of_family b family =
    if has_members b.ledger family then Some (out_of_pocket b.period b.ledger family) else None

abbrev pub deductible_of_family : LedgerBooks → List ℕ → Option ℕ
deductible_of_family b family =
    if has_members b.ledger family then Some (family_deductible b.period b.ledger family) else None
