-- The stretches so far are those up to the cut.
use Rattle.std.proofs.Common.{◌-◌, length}
use Rattle.rx_books_store.specs.BooksText.{claims_text}
use Rattle.rx_books_store.specs.Patching.{AreInTurn, IsCut, rest_text}
use Rattle.rx_books_store.specs.Store.{standing_rows}
use Rattle.rx_books_store.proofs.patching.stretches_of.Given as goal

abbrev pub invariant-cuts : goal.invariant-cuts
invariant-cuts l = record {
  turn : AreInTurn (claims_text (standing_rows l.opening.rows l.slots)) l.stretches.items
      (rest_text l.opening.rows l.slots l.from);
  cut : IsCut l.opening.rows l.slots l.from;
}

abbrev pub decreases-cuts : goal.decreases-cuts
decreases-cuts l = length l.slots - l.from.slot
