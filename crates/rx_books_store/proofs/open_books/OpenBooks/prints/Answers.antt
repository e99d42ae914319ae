use Rattle.std.proofs.Common.{◌∙◌}
use Rattle.rx_books_store.specs.Lists.{totals_in}
use Rattle.rx_books_store.specs.Store.{standing}
use Rattle.rx_books_store.proofs.ReadLists.{totals-kept}
use Rattle.rx_books_store.proofs.open_books.OpenBooks.prints.Goals as goal

pub returns-then-eq-clause-families : goal.returns-then-eq-clause-families
returns-then-eq-clause-families c =
    let b = c.self.inside in
    let ns = c.families.result.now in
    λ same. rw (← c.self.view_is) (c.are_totals.ensures same
    ∙ (λ j. totals_in c.args.version ns (c.deref.ensures.value j) (c.deref-then-eq.ensures.value j))
    ∙ totals-kept c.args.version b.period (standing b.opening b.changed) ns b.deductibles.items b.out_of_pockets.items
    b.family_deductibles.items c.families.ensures c.self.invariant.figures)
