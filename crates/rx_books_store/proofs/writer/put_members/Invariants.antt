-- The lines of the members so far.
use Rattle.std.proofs.Common.{◌≡◌, ◌++◌, take}
use Rattle.rx_books_text.specs.Printed.{member_lines}
use Rattle.rx_books_store.specs.BooksText.{lines_text}
use Rattle.rx_books_store.proofs.writer.put_members.Given as goal

abbrev pub invariant-loop-at : goal.invariant-loop-at
invariant-loop-at l =
    l.text.items ≡ l.initial.text.items ++ lines_text (member_lines (take l.at l.members) (take l.at l.deductibles))
