-- The lines of the families so far.
use Rattle.std.proofs.Common.{◌≡◌, ◌++◌, take}
use Rattle.rx_books_store.specs.BooksText.{lines_text}
use Rattle.rx_books_store.specs.Opening.{total_lines}
use Rattle.rx_books_store.proofs.writer.put_totals.Given as goal

abbrev pub invariant-loop-at : goal.invariant-loop-at
invariant-loop-at l = l.text.items
    ≡ l.initial.text.items ++ lines_text (total_lines (take l.at l.families) (take l.at l.out_of_pockets) (take l.at l.deductibles))
