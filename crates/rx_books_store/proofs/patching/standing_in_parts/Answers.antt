use Rattle.std.proofs.Common.{[], ap, sym, ◌∙◌}
use Rattle.std.proofs.lemmas.List.{append-nil}
use Rattle.std.specs.List.{flat_map}
use Rattle.rayon.proofs.ListFacts.{IfOk-then}
use Rattle.rx_books_store.specs.BooksText.{claims_text}
use Rattle.rx_books_store.specs.Store.{standing_rows}
use Rattle.rx_books_store.proofs.Spans.{text_made, texts_in_turn}
use Rattle.rx_books_store.proofs.patching.standing_in_parts.Goals as goal

pub returns : goal.returns
returns g c =
    let whole = claims_text (standing_rows c.args.opening.now.rows c.args.slots.now) in
    let stretches = c.in_ok-stretches.stretches.items in
    let each = rw c.deref.ensures.value at c.texts_of.ensures in
    IfOk-then c.texts_of.result _ _ each (λ texts all.
    sym (append-nil (flat_map text_made texts.items)) ∙ texts_in_turn whole [] stretches texts.items c.in_ok-stretches.ensures all)
