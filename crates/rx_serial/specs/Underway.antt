-- Plumbing: records of a batch underway: the books so far, and what was looked up for them once.
use Rattle.std.specs.Prelude.{ℕ, ◌<◌, ◌≤◌, Bool, true, IfSome, List, Option, Some, length}
use Rattle.std.specs.List.{All, Contains}
use Rattle.rx_fields.specs.Order.{key_cmp}
use Rattle.rx_fields.specs.declared.key.Key.{Key}
use Rattle.rx_sorted.specs.Ascending.{IsAscending, contains_key}
use Rattle.rx_d0_values.specs.declared.transmission.Transmission.{Transmission}
use Rattle.rx_ledger.specs.Basis.{HoldsRecord, Scope}
use Rattle.rx_ledger.specs.declared.member.Member.{Member}
use Rattle.rx_ledger.specs.Ledger.{Ledger, IsLedger}
use Rattle.rx_books_store.specs.LedgerBooks.{LedgerBooks}
use Rattle.rx_books_store.specs.OpenBooks.{OpenParts}
use Rattle.rx_serial.specs.declared.fill.Fill.{Fill}
use Rattle.rx_serial.specs.declared.fill.FirstDay.{FirstDay}
use Rattle.rx_serial.specs.declared.marks.Marks.{Marks}
use Rattle.rx_serial.specs.Fills.{AreCounted, is_counted}

-- the books, the fill keys that have a slot, and those that the records name
pub record Underway : Type 0 where
  pub books : LedgerBooks
  pub slots : List Key
  pub keys : List Key

-- a key is one of a list
abbrev pub is_named : List Key → Key → Bool
is_named keys k = contains_key key_cmp (λ key. key) keys k

-- what it answers for: the period of its books, the keys that the records name, every member and family
abbrev pub scope_of : Underway → Scope
scope_of u =
    record {
      period = Some u.books.period;
      has_key = is_named u.keys;
      has_member = λ m. true;
      has_family = λ f. true;
    }

-- the record is one of those: what it asks for is answered for, whatever stands
abbrev pub IsAwaited : Underway → Transmission → Type 0
IsAwaited u t = (L : Ledger) → HoldsRecord (scope_of u) L t.body

-- a member is at the place, if there is one
abbrev pub IsHolder : List Member → Option ℕ → Type 0
IsHolder members holder = IfSome holder (λ i. i < length members)

-- what is kept: books in order, the keys in order with a slot for each, the counts of the fills of courses that have a
-- mark, as far as they last until the first day, none of a longer fill than the longest, and where members are listed
pub record IsUnderway (o : OpenParts) (keys : List Key) (marks : Marks) (first : FirstDay) (fills : List Fill)
    (longest : ℕ) (holders : List (Option ℕ)) : Type 0 where
  pub in_order : IsLedger o.books.ledger
  pub rise : IsAscending key_cmp (λ key. key) keys
  pub opened : All (Contains o.slots) keys
  pub counted : AreCounted (is_counted marks first) o.books.ledger.members o.books.ledger.rows fills
  pub within : All (λ f. f.key.when.days ≤ longest) fills
  pub near : All (IsHolder o.books.ledger.members) holders
