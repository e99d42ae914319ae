use Rattle.std.proofs.Common.{arith}
use Rattle.std.proofs.lemmas.List.Elements.{All-nil}
use Rattle.rx_books_store.specs.Store.{IsSlot}
use Rattle.rx_books_store.proofs.open_books.OpenBooks.added_up_in_parts.Goals as goal

pub with_figures-requires : goal.with_figures-requires
with_figures-requires g c = record {
  figures = rw c.new.ensures (record {
    opened = c.in_ok-figures.ensures.within;
    in_order = c.in_ok-figures.ensures.within;
    slots_rise = tt;
    slots_own = All-nil (IsSlot c.args.opening.members);
    figures = c.in_ok-figures.ensures.sums.figures;
    small = c.in_ok-figures.ensures.sums.small;
    few = omega (arith, c.in_ok-figures.ensures.few);
  });
}
