use Rattle.std.proofs.Common.{◌++◌, ◌∷◌, List, ℕ, ap, ◌∙◌}
use Rattle.rx_books_scan.proofs.Numbers.{day_text}
use Rattle.rx_books_scan.proofs.field.day_at.Goals as goal

pub returns-clause-whole : goal.returns-clause-whole
returns-clause-whole c =
    c.in_ok-field.ensures.whole
    ∙ ap (λ (t : List ℕ). t ++ 124 ∷ c.in_ok-field.rest.now)
    (day_text c.in_ok-field.field.now c.in_ok-day.day c.date_read.result c.date_read.ensures c.in_ok-day.ensures.value)
