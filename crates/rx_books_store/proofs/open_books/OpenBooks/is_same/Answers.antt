use Rattle.std.proofs.Common.{◌≡◌, Decides}
use Rattle.std.specs.Cmp.Lexicographic.{pointwise_decides}
use Rattle.std.proofs.lemmas.Bool.Decides.{Decides-at}
use Rattle.rx_ledger.proofs.Decided.{member_decides, period_decides}
use Rattle.rx_books_store.specs.LedgerBooks.{LedgerBooks}
use Rattle.rx_books_store.specs.Store.{standing}
use Rattle.rx_books_store.proofs.Same.{both_hold, first_fails}
use Rattle.rx_books_store.proofs.SameRows.{SameHeads, heads_tell, rows_tell}
use Rattle.rx_books_store.proofs.open_books.OpenBooks.is_same.Goals as goal
use Rattle.rx_books_store.proofs.open_books.OpenBooks.is_same.Goals.{then-eq, else-eq}

pub returns-then-eq-2 : goal.returns-then-eq-2
returns-then-eq-2 c =
    let x = c.self.inside in
    let y = c.other.inside in
    let a : LedgerBooks = record { period = x.period; ledger = standing x.opening x.changed } in
    let b : LedgerBooks = record { period = y.period; ledger = standing y.opening y.changed } in
    let period : Decides c.eq.result (a.period ≡ b.period) = Decides-at _ _ c.eq.ensures (period_decides a.period b.period) in
    let heads : Decides c.if-eq.value (SameHeads a b) = elim c.if-eq.branch [
      | then-eq w ↦ both_hold c.eq.result w.eq-then-eq.result c.if-eq.value period w.if-eq.true
          (rw (w.members.ensures.value, w.members-then-eq.ensures.value) at
          (Decides-at _ _ w.eq-then-eq.ensures (pointwise_decides member_decides w.members.result.now
          w.members-then-eq.result.now))) w.value-is
      | else-eq w ↦ first_fails c.eq.result c.if-eq.value period w.if-eq.false w.value-is
    ] in
    let rows : Decides c.has_rows_of.result (a.ledger.rows ≡ b.ledger.rows) =
    rw (← c.self.view_is, ← c.other.view_is) at c.has_rows_of.ensures in
    rw (← c.self.view_is, ← c.other.view_is) (rows_tell a b c.if-eq.value c.has_rows_of.result heads c.if-eq-2.true rows)

pub returns-else-eq-2 : goal.returns-else-eq-2
returns-else-eq-2 c =
    let x = c.self.inside in
    let y = c.other.inside in
    let a : LedgerBooks = record { period = x.period; ledger = standing x.opening x.changed } in
    let b : LedgerBooks = record { period = y.period; ledger = standing y.opening y.changed } in
    let period : Decides c.eq.result (a.period ≡ b.period) = Decides-at _ _ c.eq.ensures (period_decides a.period b.period) in
    let heads : Decides c.if-eq.value (SameHeads a b) = elim c.if-eq.branch [
      | then-eq w ↦ both_hold c.eq.result w.eq-then-eq.result c.if-eq.value period w.if-eq.true
          (rw (w.members.ensures.value, w.members-then-eq.ensures.value) at
          (Decides-at _ _ w.eq-then-eq.ensures (pointwise_decides member_decides w.members.result.now
          w.members-then-eq.result.now))) w.value-is
      | else-eq w ↦ first_fails c.eq.result c.if-eq.value period w.if-eq.false w.value-is
    ] in
    rw (← c.self.view_is, ← c.other.view_is) (heads_tell a b c.if-eq.value heads c.if-eq-2.false)
