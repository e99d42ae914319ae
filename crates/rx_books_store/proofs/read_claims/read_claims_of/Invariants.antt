-- The parts so far, and the lines of the claims after them.
use Rattle.std.proofs.Common.{◌≡◌, ◌<◌, ◌^◌, drop, length, take}
use Rattle.std.specs.List.{flat_map}
use Rattle.rx_sorted.specs.Runs.{items_of}
use Rattle.rx_books_store.specs.ReadClaims.{AreRead}
use Rattle.rx_books_store.proofs.read_claims.read_claims_of.Given as goal

abbrev pub invariant-loop-run : goal.invariant-loop-run
invariant-loop-run l = record {
  rows : flat_map (λ part. part) l.parts.items ≡ items_of (take l.run-index l.runs);
  rest : AreRead (items_of (drop l.run-index l.runs)) l.lines l.lengths;
  few : length l.lines < 2 ^ 64;
}
