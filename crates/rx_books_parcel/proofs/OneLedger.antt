-- Ledgers with the same books are one.
use Rattle.std.proofs.Common.{◌≡◌, ℕ, List, true, ap, sym, subst}
use Rattle.std.specs.List.{Contains}
use Rattle.std.specs.Ordering.{is_eq}
use Rattle.std.proofs.lemmas.Cmp.{tied_itself}
use Rattle.rx_fields.specs.Order.{key_cmp}
use Rattle.rx_sorted.proofs.Edits.{same_members}
use Rattle.rx_sorted.proofs.Filters.{Contains-filter, Contains-filter_kept}
use Rattle.rx_ledger.specs.declared.member.Member.{Member}
use Rattle.rx_ledger.specs.declared.row.Row.{Row}
use Rattle.rx_ledger.specs.Ledger.{Ledger}
use Rattle.rx_ledger.specs.Members.{member_cmp, member_key}
use Rattle.rx_ledger.specs.Rows.{row_key}
use Rattle.rx_ledger.proofs.Orders.{id_total, key_total, member_total}
use Rattle.rx_books_family.specs.Books.{Book, IsInOrder, OfFamily, OfKey, book, has_member, has_row}
use Rattle.rx_books_family.proofs.BookValues.{ledger_path}

module _ (L M : Ledger) (in_L : IsInOrder L) (in_M : IsInOrder M) (same : (b : Book) → book b L ≡ book b M) where
  row_over : (r : Row) → Contains L.rows r → Contains M.rows r
  row_over r among =
      let own : has_row (OfKey r.key) r ≡ true = ap is_eq (tied_itself key_total r.key) in
      let here : Contains (book (OfKey r.key) L).rows r = Contains-filter_kept (has_row (OfKey r.key)) L.rows r among own in
      let there : Contains (book (OfKey r.key) M).rows r =
      subst (λ (N : Ledger). Contains N.rows r) (same (OfKey r.key)) here in
      let found = Contains-filter (has_row (OfKey r.key)) M.rows r there in
      found.0

  member_over : (m : Member) → Contains L.members m → Contains M.members m
  member_over m among =
      let f : List ℕ = m.key.family in
      let own : has_member (OfFamily f) m ≡ true = ap is_eq (tied_itself id_total f) in
      let here : Contains (book (OfFamily f) L).members m = Contains-filter_kept (has_member (OfFamily f)) L.members m among own in
      let there : Contains (book (OfFamily f) M).members m =
      subst (λ (N : Ledger). Contains N.members m) (same (OfFamily f)) here in
      let found = Contains-filter (has_member (OfFamily f)) M.members m there in
      found.0

pub one_ledger : (L M : Ledger) → IsInOrder L → IsInOrder M → ((b : Book) → book b L ≡ book b M) → L ≡ M
one_ledger L M in_L in_M same = ledger_path L M
    (same_members member_cmp member_total member_key L.members M.members in_L.members_rise in_M.members_rise
    (member_over L M in_L in_M same) (member_over M L in_M in_L (λ b. sym (same b))))
    (same_members key_cmp key_total row_key L.rows M.rows in_L.rows_rise in_M.rows_rise
    (row_over L M in_L in_M same) (row_over M L in_M in_L (λ b. sym (same b))))
