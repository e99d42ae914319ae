-- What is kept stays in order.
use Rattle.std.proofs.Common.{◌≡◌, ◌∙◌, ap, false, true}
use Rattle.rx_fields.specs.Order.{key_cmp}
use Rattle.rx_sorted.specs.Ascending.{is_ascending}
use Rattle.rx_sorted.proofs.Kept.{IsAscending-filter, is_ascending-from_fact}
use Rattle.rx_ledger.specs.declared.row.Row.{Row}
use Rattle.rx_ledger.specs.Rows.{row_key}
use Rattle.rx_ledger.proofs.Orders.{key_total}
use Rattle.rx_commands.specs.ExcerptParts.{is_one_of}
use Rattle.rx_commands.proofs.excerpts.books_file.rows_of.Goals as goal

pub unreachable-requires : goal.unreachable-requires
unreachable-requires c =
    let own = λ (r : Row). is_one_of c.args.families.now r.family in
    let rise : is_ascending key_cmp row_key c.in_ok-kept.kept.items ≡ true =
    ap (is_ascending key_cmp row_key) c.in_ok-kept.ensures
    ∙ is_ascending-from_fact key_cmp key_total row_key _
    (IsAscending-filter key_cmp key_total row_key own c.args.rows.now c.requires) in
    let e : false ≡ true = c.in-Err.ensures.ok ∙ rise in
    cc
