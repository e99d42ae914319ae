-- Plumbing: rows in order, with the places of their members.
use Rattle.std.specs.Prelude.{ℕ, ◌<◌, ◌^◌, List, length}
use Rattle.rx_fields.specs.Order.{key_cmp}
use Rattle.rx_sorted.specs.Ascending.{IsAscending}
use Rattle.rx_ledger.specs.declared.member.Member.{Member}
use Rattle.rx_ledger.specs.declared.row.Row.{Row}
use Rattle.rx_ledger.specs.Rows.{row_key}
use Rattle.rx_books_store.specs.Store.{AreHolders}

-- the rows are in order, few enough to be counted, and each one's member is at its place
pub record AreHeld (members : List Member) (rows : List Row) (holders : List ℕ) : Type 0 where
  pub rise : IsAscending key_cmp row_key rows
  pub few : length rows < 2 ^ 63
  pub held_by : AreHolders members rows holders
