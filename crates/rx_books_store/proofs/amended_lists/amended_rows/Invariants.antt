-- The places that are still to come, over the rows that are there.
use Rattle.std.proofs.Common.{◌≡◌, drop}
use Rattle.rx_books_family.specs.Amended.{amended_rows}
use Rattle.rx_books_store.proofs.amended_lists.amended_rows.Given as goal

abbrev pub invariant-loop-place : goal.invariant-loop-place
invariant-loop-place l = amended_rows l.all (drop l.place-index l.places) ≡ amended_rows l.initial.all l.places
