-- What the parts so far are, where each of the parts is cut.
use Rattle.std.proofs.Common.{◌≡◌, ◌++◌, ℕ, List, length}
use Rattle.std.specs.List.{AllZip}
use Rattle.std.specs.Vec.Iter.{into_iter_items, into_iter_len}
use Rattle.rx_fields.specs.Calendar.{Civil}
use Rattle.rx_ledger.specs.declared.row.Row.{Row}
use Rattle.rx_books_upkeep.specs.AgedText.{AreCut, IsCut}
use Rattle.rx_books_upkeep.proofs.Cuts.{first_claims}
use Rattle.rx_books_upkeep.proofs.cut_claims.gathered.Given as goal

abbrev pub invariant-loop-cut : goal.invariant-loop-cut
invariant-loop-cut l = record {
  so_far : (percent : ℕ) (day : Civil) (parts : List (List Row)) → AllZip (IsCut percent day) parts l.fn.found.items
      → AreCut percent day (first_claims parts (length l.yielded)) l.cuts;
  all : l.yielded ++ into_iter_items l.cut-iterator ≡ l.fn.found.items;
  rest : into_iter_len l.cut-iterator ≡ length (into_iter_items l.cut-iterator);
}
