-- The nearest person by the lines so far.
use Rattle.std.proofs.Common.{◌≡◌, map, option_copied}
use Rattle.rx_diagnostics.specs.BooksMembers.{nearest, persons_in}
use Rattle.rx_diagnostics.proofs.books_members.nearest.Given as goal

abbrev pub invariant-loop-line : goal.invariant-loop-line
invariant-loop-line l =
    option_copied l.found ≡ nearest l.person (persons_in l.family (map (λ line. line.now) l.yielded))
