use Rattle.std.proofs.Common.{◌++◌, List, ℕ, ap, ◌∙◌}
use Rattle.rx_books_text.specs.LineText.{ended}
use Rattle.rx_books_scan.proofs.reader.head_at.Goals as goal

pub returns : goal.returns
returns c =
    let found = c.in_ok-head.ensures.found in
    (found.0, c.in_ok-line.ensures ∙ ap (λ (t : List ℕ). ended t ++ c.in_ok-line.rest.now) found.1)
