use Rattle.std.proofs.Common.{◌≡◌, [], ◌++◌, false, true, sym, subst, ap, ◌∙◌}
use Rattle.std.proofs.lemmas.List.{append-nil}
use Rattle.rx_fields.specs.Order.{key_cmp}
use Rattle.rx_sorted.specs.Ascending.{IsAscending}
use Rattle.rx_sorted.proofs.Kept.{is_ascending-from_fact}
use Rattle.rx_ledger.specs.Ledger.{Ledger}
use Rattle.rx_ledger.specs.Rows.{row_key}
use Rattle.rx_ledger.proofs.Orders.{key_total}
use Rattle.rx_books_store.specs.Store.{standing_rows}
use Rattle.rx_books_store.proofs.open_books.OpenBooks.rows.Goals as goal

pub unreachable-requires : goal.unreachable-requires
unreachable-requires c =
    let items = c.rows.rows.items in
    let all = standing_rows c.self.inside.opening.rows c.self.inside.changed in
    let none : c.rows.standing.rows ≡ [] = c.in_default.ensures.none in
    let first : c.of-standing.result.rows ≡ all = ap (λ (L : Ledger). L.rows) c.of-standing.ensures
    ∙ ap (λ ss. standing_rows c.self.inside.opening.rows ss) c.as_slice.ensures.value in
    let same : items ≡ all = sym (append-nil items) ∙ ap (λ xs. items ++ xs) (sym none) ∙ c.rows.invariant ∙ first in
    let rise : IsAscending key_cmp row_key items = subst (IsAscending key_cmp row_key) (sym same) c.self.invariant.in_order.rows_rise in
    let e : false ≡ true = c.in-Err.ensures.ok ∙ is_ascending-from_fact key_cmp key_total row_key items rise in
    cc
