-- This many parts, each empty.
use Rattle.std.proofs.Common.{◌≡◌, [], length}
use Rattle.std.specs.List.{All}
use Rattle.rx_explain.proofs.events.empty_parts.Given as goal

abbrev pub invariant-loop : goal.invariant-loop
invariant-loop l = record {
  many : length l.parts.items ≡ l.counter;
  empty : All (λ v. v.items ≡ []) l.parts.items;
}
