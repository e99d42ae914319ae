use Rattle.std.proofs.Common.{◌+◌, List, ℕ, take, Some, sym, ap, ◌∙◌}
use Rattle.rx_books_text.proofs.Cuts.{to_end}
use Rattle.rx_books_upkeep.proofs.TableCuts.{cut_at, cut_none}
use Rattle.rx_books_upkeep.proofs.table_line.cut.Goals as goal

pub returns-in_err-at : goal.returns-in_err-at
returns-in_err-at c = rw c.from_residual.ensures (sym (cut_none c.args.bytes.now c.in_err-at.ensures))

pub returns : goal.returns
returns c =
    let at = c.in_ok-at.at in
    let bytes = c.args.bytes.now in
    ap (λ (rest : List ℕ). Some (take at bytes, rest)) (to_end (at + 1) bytes)
    ∙ sym (cut_at bytes at c.in_ok-at.ensures.0.high c.in_ok-at.ensures.0.before c.in_ok-at.ensures.1)
