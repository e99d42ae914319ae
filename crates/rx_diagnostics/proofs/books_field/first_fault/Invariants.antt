-- The first fault is among the fields from here on.
use Rattle.std.proofs.Common.{◌≡◌, ◌+◌, drop}
use Rattle.rx_diagnostics.specs.BooksFields.{first_fault}
use Rattle.rx_diagnostics.proofs.books_field.first_fault.Given as goal

abbrev pub invariant-loop-before : goal.invariant-loop-before
invariant-loop-before l = first_fault (l.before + 2) (drop l.before l.fields) l.line ≡ first_fault 2 l.fields l.line
