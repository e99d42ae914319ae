use Rattle.std.proofs.Common.{◌++◌, ◌∷◌, List, ℕ, sym, ap, ◌∙◌}
use Rattle.rx_books_scan.proofs.Numbers.{number_text}
use Rattle.rx_books_scan.proofs.field.number_at.Goals as goal

pub returns-clause-short : goal.returns-clause-short
returns-clause-short c =
    (number_text c.args.bytes.now c.in_ok-field.field.now c.in_ok-number.number c.in_ok-number.at c.in_ok-number.ensures
    c.in_ok-field.ensures.front (sym c.is_plain.ensures ∙ c.if-not-is_plain.false)).1

pub returns-clause-whole : goal.returns-clause-whole
returns-clause-whole c =
    c.in_ok-field.ensures.whole
    ∙ ap (λ (t : List ℕ). t ++ c.args.end ∷ c.in_ok-field.rest.now)
    (number_text c.args.bytes.now c.in_ok-field.field.now c.in_ok-number.number c.in_ok-number.at c.in_ok-number.ensures
    c.in_ok-field.ensures.front (sym c.is_plain.ensures ∙ c.if-not-is_plain.false)).0
