use Rattle.std.proofs.Common.{[], ◌∷◌, ◌++◌, ap, ◌∙◌}
use Rattle.std.specs.List.{flat_map}
use Rattle.std.specs.Vec.{vec_items}
use Rattle.rx_books_store.specs.BooksText.{above_text, below_text}
use Rattle.rx_books_store.proofs.KeptText.{books_text-parts}
use Rattle.rx_books_store.proofs.Written.{between}
use Rattle.rx_books_store.proofs.open_books.OpenBooks.rendered_in_parts.Goals as goal

pub returns : goal.returns
returns g c =
    let b = c.args.self.now.books in
    let claims = flat_map vec_items c.in_ok-texts.texts.items in
    let ends = c.in_ok-above.field-0 in
    ap (flat_map vec_items) (c.in_ok-push.ensures.items ∙ ap (λ l. l ++ ends.below ∷ []) c.in_ok-insert.ensures.items)
    ∙ between vec_items ends.above ends.below c.in_ok-texts.texts.items
    ∙ ap (λ t. t ++ (claims ++ ends.below.items)) c.in_ok-above.ensures.above
    ∙ ap (λ t. above_text b.period b.ledger ++ (claims ++ t)) c.in_ok-above.ensures.below
    ∙ ap (λ t. above_text b.period b.ledger ++ (t ++ below_text b.period b.ledger)) c.in_ok-texts.ensures
    ∙ books_text-parts b.period b.ledger
