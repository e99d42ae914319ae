-- No wrong line so far.
use Rattle.std.proofs.Common.{◌≡◌, None, not, take}
use Rattle.std.specs.List.{position}
use Rattle.rx_books_text.specs.Printed.{member_lines}
use Rattle.rx_books_store.specs.Figures.{are_sums}
use Rattle.rx_books_store.proofs.open_books.OpenBooks.wrong_member.Given as goal

abbrev pub invariant-loop-at : goal.invariant-loop-at
invariant-loop-at l =
    position (λ x. not (are_sums l.self.books x)) (member_lines (take l.at l.members) (take l.at l.deductibles)) ≡ None
