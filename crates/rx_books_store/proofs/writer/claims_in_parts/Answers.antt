use Rattle.std.proofs.Common.{ap, ◌∙◌}
use Rattle.rayon.proofs.ListFacts.{IfOk-then}
use Rattle.rx_books_store.specs.Opening.{rows_text}
use Rattle.rx_books_store.proofs.Written.{texts-pieces}
use Rattle.rx_books_store.proofs.writer.claims_in_parts.Goals as goal

pub returns : goal.returns
returns g c =
    let pieces = c.in_ok-pieces.pieces.items in
    let each = rw c.deref.ensures.value at c.texts_of.ensures in
    IfOk-then c.texts_of.result _ _ each (λ texts all. texts-pieces (λ piece. piece.now) pieces texts.items all
    ∙ ap rows_text c.in_ok-pieces.ensures)
