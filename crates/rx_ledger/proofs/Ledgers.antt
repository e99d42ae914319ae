-- What keeps a ledger a ledger: one more member, one more row of a listed member, one row less.
use Rattle.std.proofs.Common.{◌≡◌, Bool, true, not, inl, inr}
use Rattle.std.proofs.lemmas.Bool.{cases_Bool}
use Rattle.rx_fields.specs.Order.{key_cmp}
use Rattle.rx_fields.specs.declared.key.Key.{Key}
use Rattle.rx_sorted.specs.Ascending.{has_key}
use Rattle.rx_sorted.proofs.Kept.{IsAscending-put, IsAscending-without}
use Rattle.rx_sorted.proofs.LookUps.{item_at-put}
use Rattle.rx_ledger.specs.Ledger.{Ledger, IsLedger, is_listed, with_member, with_row, without_row}
use Rattle.rx_ledger.specs.Members.{member_cmp, member_key}
use Rattle.rx_ledger.specs.Rows.{member_of_row, row_key}
use Rattle.rx_ledger.specs.declared.member.Member.{Member}
use Rattle.rx_ledger.specs.declared.member.MemberKey.{MemberKey}
use Rattle.rx_ledger.specs.declared.row.Row.{Row}
use Rattle.rx_ledger.proofs.Orders.{key_total, member_total}
use Rattle.rx_ledger.proofs.Passed.{passed_filter, passed_put, passed_weaker}

-- who is listed stays listed
pub listed_still : (L : Ledger) (m : Member) (k : MemberKey) → is_listed L k ≡ true → is_listed (with_member L m) k ≡ true
listed_still L m k h =
    rw (item_at-put member_cmp member_total member_key L.members m k)
    (elim (cases_Bool (has_key member_cmp member_key k m)) [ inl here ↦ rw here | inr other ↦ rw other h ])

pub IsLedger-with_member : (L : Ledger) (m : Member) → IsLedger L → IsLedger (with_member L m)
IsLedger-with_member L m is =
    let before : Row → Bool = λ r. is_listed L (member_of_row r) in
    let after : Row → Bool = λ r. is_listed (with_member L m) (member_of_row r) in
    record {
      members_rise = IsAscending-put member_cmp member_total member_key L.members m is.members_rise;
      rows_rise = is.rows_rise;
      whole = passed_weaker before after (λ r. listed_still L m (member_of_row r)) L.rows is.whole;
    }

pub IsLedger-with_row : (L : Ledger) (r : Row) → IsLedger L → is_listed L (member_of_row r) ≡ true → IsLedger (with_row L r)
IsLedger-with_row L r is listed =
    let listed_one : Row → Bool = λ s. is_listed L (member_of_row s) in
    record {
      members_rise = is.members_rise;
      rows_rise = IsAscending-put key_cmp key_total row_key L.rows r is.rows_rise;
      whole = passed_put listed_one key_cmp row_key L.rows r is.whole listed;
    }

pub IsLedger-without_row : (L : Ledger) (k : Key) → IsLedger L → IsLedger (without_row L k)
IsLedger-without_row L k is =
    let listed_one : Row → Bool = λ s. is_listed L (member_of_row s) in
    let others : Row → Bool = λ s. not (has_key key_cmp row_key k s) in
    record {
      members_rise = is.members_rise;
      rows_rise = IsAscending-without key_cmp key_total row_key L.rows k is.rows_rise;
      whole = passed_filter listed_one others L.rows is.whole;
    }
