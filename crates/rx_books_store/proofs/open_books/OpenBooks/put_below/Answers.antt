use Rattle.std.proofs.Common.{◌++◌, ap, ◌∙◌}
use Rattle.rx_books_store.specs.BooksText.{lines_text}
use Rattle.rx_books_store.specs.Opening.{total_lines}
use Rattle.rx_books_store.specs.Store.{standing}
use Rattle.rx_books_store.proofs.KeptText.{below-kept}
use Rattle.rx_books_store.proofs.open_books.OpenBooks.put_below.Goals as goal

pub returns : goal.returns
returns c =
    let b = c.self.inside in
    let ns = c.families.result.now in
    let text = c.args.text.now.items in
    rw (← c.self.view_is) (
    c.in_ok-put_totals.ensures
    ∙ ap (λ t. text ++ t) (ap (λ ps. lines_text (total_lines ns ps c.deref-2.result.now)) c.deref.ensures.value
    ∙ ap (λ ds. lines_text (total_lines ns b.out_of_pockets.items ds)) c.deref-2.ensures.value
    ∙ below-kept b.period (standing b.opening b.changed) ns b.deductibles.items b.out_of_pockets.items b.family_deductibles.items
    c.families.ensures c.self.invariant.figures)
    )
