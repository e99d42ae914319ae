use Rattle.std.proofs.Common.{◌≡◌, [], ◌∷◌, sym, ap, ◌∙◌}
use Rattle.rx_ledger.specs.declared.row.Row.{Row}
use Rattle.rx_ledger.proofs.Decided.{row_decides}
use Rattle.rx_books_store.specs.Patching.{held_rows}
use Rattle.rx_books_store.proofs.Patches.{held_read}
use Rattle.rx_books_store.proofs.patching.is_as_read.Goals as goal

pub returns-then-run : goal.returns-then-run
returns-then-run c = λ is.
    let read : Row = c.at.result.now in
    let same : read ≡ c.in-Some.row = (row_decides read c.in-Some.row).0 (sym c.eq.ensures ∙ is) in
    ap held_rows c.in-Some.is ∙ ap (λ (r : Row). r ∷ []) (sym same)
    ∙ held_read c.args.rows.now c.args.run.last c.args.run.next read c.if-run.true c.requires.one c.requires.within c.at.ensures
