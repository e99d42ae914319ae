use Rattle.std.proofs.Common.{sym, ◌∙◌}
use Rattle.rx_fields.specs.Order.{key_cmp}
use Rattle.rx_ledger.specs.Rows.{row_key}
use Rattle.rx_ledger.proofs.Orders.{key_total}
use Rattle.rx_sorted.proofs.Edits.{put-past}
use Rattle.rx_books_shelf.proofs.unsummed.put_behind.Goals as goal

pub returns-clause-ok : goal.returns-clause-ok
returns-clause-ok c =
    c.in_ok-push.ensures.ok ∙ sym (put-past key_cmp key_total row_key c.args.rows.now c.args.row c.requires)
