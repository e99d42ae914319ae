-- The claims so far, masked.
use Rattle.std.proofs.Common.{◌≡◌, ◌++◌, map, take}
use Rattle.rx_explain.specs.Seen.{masked}
use Rattle.rx_explain.proofs.seen.put_masked.Given as goal

abbrev pub invariant-loop-traced : goal.invariant-loop-traced
invariant-loop-traced l =
    l.shown.items ≡ l.fn.shown.items ++ map (masked l.explanation l.bill) (take l.traced-index l.others)
