-- Meaning: the ledger: the members and the standing claims.
use Rattle.std.specs.Prelude.{◌≡◌, ℕ, Bool, true, List, [], Option, filter}
use Rattle.std.specs.List.{list_all}
use Rattle.rx_fields.specs.Order.{key_cmp}
use Rattle.rx_fields.specs.declared.key.Key.{Key}
use Rattle.rx_sorted.specs.Ascending.{IsAscending, contains_key, item_at, put, without}
use Rattle.rx_ledger.specs.declared.member.Member.{Member}
use Rattle.rx_ledger.specs.declared.member.MemberKey.{MemberKey}
use Rattle.rx_ledger.specs.declared.row.Row.{Row}
use Rattle.rx_ledger.specs.Members.{member_cmp, member_key, of_family}
use Rattle.rx_ledger.specs.Rows.{claimed_by, member_of_row, row_key}

-- members ascending by family and person, and rows ascending by fill key
pub record Ledger : Type 0 where
  pub members : List Member
  pub rows : List Row

abbrev pub empty : Ledger
empty = record { members = []; rows = [] }

-- the row under a fill key
abbrev pub row_under : Ledger → Key → Option Row
row_under L key = item_at key_cmp row_key L.rows key

-- a row stands under the fill key
abbrev pub is_taken : Ledger → Key → Bool
is_taken L key = contains_key key_cmp row_key L.rows key

-- the member is listed
abbrev pub is_listed : Ledger → MemberKey → Bool
is_listed L key = contains_key member_cmp member_key L.members key

-- the ledger with one more member, with one more row, and without the row under a fill key
abbrev pub with_member : Ledger → Member → Ledger
with_member L m = record L { members = put member_cmp member_key L.members m }

abbrev pub with_row : Ledger → Row → Ledger
with_row L r = record L { rows = put key_cmp row_key L.rows r }

abbrev pub without_row : Ledger → Key → Ledger
without_row L key = record L { rows = without key_cmp row_key L.rows key }

-- the members of a family, and its rows
abbrev pub members_of : Ledger → List ℕ → List Member
members_of L family = filter (of_family family) L.members

abbrev pub rows_of : Ledger → List ℕ → List Row
rows_of L family = filter (claimed_by family) L.rows

-- the member of each row is listed
abbrev pub is_whole : Ledger → Bool
is_whole L = list_all (λ r. contains_key member_cmp member_key L.members (member_of_row r)) L.rows

-- a ledger is in order, and whole
pub record IsLedger (L : Ledger) : Type 0 where
  pub members_rise : IsAscending member_cmp member_key L.members
  pub rows_rise : IsAscending key_cmp row_key L.rows
  pub whole : is_whole L ≡ true
