use Rattle.std.proofs.Common.{◌≡◌, ◌++◌, ◌+◌, drop, false}
use Rattle.rx_show.specs.Table.{transaction_rows}
use Rattle.rx_show.proofs.table.put_transactions.Given as goal

abbrev pub invariant-loop-before : goal.invariant-loop-before
invariant-loop-before l = l.page.lacks ≡ false
    → (l.fn.page.lacks ≡ false) × (l.page.bytes.items ++ transaction_rows l.place l.heard (l.before + 1) (drop l.before l.transaction-items)
    ≡ l.fn.page.bytes.items ++ transaction_rows l.place l.heard 1 l.heard.list)
