use Rattle.std.proofs.Common.{◌+◌, List, ℕ, take, Some, sym, ap, ◌∙◌}
use Rattle.rx_books_text.proofs.Cuts.{split_none, split_at, to_end}
use Rattle.rx_books_text.proofs.cut.split.Goals as goal

pub returns-in_err-at : goal.returns-in_err-at
returns-in_err-at c = rw c.from_residual.ensures (sym (split_none c.args.bytes.now c.in_err-at.ensures))

pub returns : goal.returns
returns c =
    let at = c.in_ok-at.at in
    let bytes = c.args.bytes.now in
    ap (λ (rest : List ℕ). Some (take at bytes, rest)) (to_end (at + 1) bytes)
    ∙ sym (split_at bytes at c.in_ok-at.ensures.0.high c.in_ok-at.ensures.0.before c.in_ok-at.ensures.1)
