use Rattle.std.proofs.Common.{◌++◌, ◌∷◌, List, ℕ, sym, ap, ◌∙◌}
use Rattle.rx_books_text.proofs.NumberLaws.{product_takes}
use Rattle.rx_books_scan.proofs.field.product_at.Goals as goal

pub returns-clause-whole : goal.returns-clause-whole
returns-clause-whole c =
    c.in_ok-field.ensures.whole
    ∙ ap (λ (t : List ℕ). t ++ 124 ∷ c.in_ok-field.rest.now)
    (product_takes c.in_ok-field.field.now c.in_ok-product.product (sym c.in_ok-product.ensures)).0
