use Rattle.std.proofs.Common.{◌≡◌}
use Rattle.rx_ledger.proofs.Decided.{row_decides}
use Rattle.rx_books_store.proofs.SameRows.{from_not, rests_decide}
use Rattle.rx_books_store.proofs.open_books.OpenBooks.has_rows_of.Goals as goal

pub rows-preserved : goal.rows-preserved
rows-preserved c =
    let r = c.in-Some.row.now in
    let s = c.in-Some-next_row.other.now in
    let same : r ≡ s = (row_decides r s).0 (from_not _ c.if-ne.ensures) in
    rests_decide (c.standing-ours.result.rows ≡ c.standing-theirs.result.rows) c.rows.ours.rows c.rows.theirs.rows _ _ r s
    c.in-Some.ensures.row c.in-Some-next_row.ensures.row same c.rows.invariant
