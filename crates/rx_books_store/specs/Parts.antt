-- Plumbing: the opening rows in parts, and how the figures over parts are added.
use Rattle.std.specs.Prelude.{◌≡◌, ℕ, ◌+◌, ◌<◌, ◌≤◌, ◌^◌, List, length, slice_index}
use Rattle.std.specs.List.{All}
use Rattle.rx_fields.specs.declared.limits.TheConstants.{MOST_CENTS}
use Rattle.rx_fields.specs.Numbered.{Span}
use Rattle.rx_ledger.specs.declared.member.Member.{Member}
use Rattle.rx_ledger.specs.declared.row.Row.{Row}
use Rattle.rx_ledger.specs.Ledger.{IsLedger, Ledger}
use Rattle.rx_ledger.specs.Sums.{paid_by_patient}
use Rattle.rx_books_store.specs.declared.sums.Figures.{Figures}
use Rattle.rx_books_store.specs.Store.{AreFigures, AreHolders}

-- some rows of a ledger, with the place of each one's member
pub record IsPart (members : List Member) (rows : List Row) (holders : List ℕ) : Type 0 where
  pub in_order : IsLedger (record { members = members; rows = rows })
  pub held_by : AreHolders members rows holders
  pub few : length rows < 2 ^ 64

-- the figures are the sums over a ledger's rows
pub record IsSummed (period : Span) (L : Ledger) (f : Figures) : Type 0 where
  pub figures : AreFigures period L f.deductibles.items f.out_of_pockets.items f.family_deductibles.items
  pub small : All (λ r. paid_by_patient r ≤ MOST_CENTS) L.rows

-- each number is the sum of the two at its place
pub record AreAdded (first second sums : List ℕ) : Type 0 where
  pub one_each : length sums ≡ length first
  pub each : (place : ℕ) → slice_index sums place ≡ slice_index first place + slice_index second place

-- they may be added
pub record MayBeAdded (first second : List ℕ) : Type 0 where
  pub one_each : length second ≡ length first
  pub room : (place : ℕ) → slice_index first place + slice_index second place < 2 ^ 128
