use Rattle.std.proofs.Common.{ap, ◌∙◌}
use Rattle.std.specs.List.{list_all}
use Rattle.rx_books_store.specs.Figures.{has_total}
use Rattle.rx_books_store.proofs.KeptFigures.{list_all-names}
use Rattle.rx_books_store.proofs.open_books.OpenBooks.all_have_totals.Goals as goal

pub returns : goal.returns
returns c =
    rw (← c.self.view_is) (c.have_totals.ensures ∙ list_all-names (has_total c.args.totals.now) c.families.result.now
    ∙ ap (list_all (has_total c.args.totals.now)) c.families.ensures)
