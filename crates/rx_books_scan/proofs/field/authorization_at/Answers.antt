use Rattle.std.proofs.Common.{◌++◌, ◌∷◌, List, ℕ, ap, ◌∙◌}
use Rattle.rx_books_scan.proofs.Numbers.{authorization_text}
use Rattle.rx_books_scan.proofs.field.authorization_at.Goals as goal

pub returns-clause-whole : goal.returns-clause-whole
returns-clause-whole c =
    c.in_ok-_field.ensures.whole
    ∙ ap (λ (t : List ℕ). t ++ 10 ∷ c.in_ok-_field.rest.now)
    (authorization_text c.args.bytes.now c.in_ok-_field._field.now c.in_ok-number.number c.in_ok-number-2.number
    c.in_ok-number.at c.in_ok-number.ensures c.if-at-ne15.false c.in_ok-_field.ensures.front c.in_ok-number-2.ensures)
