-- The claims so far that are the pharmacy's, or others'.
use Rattle.std.proofs.Common.{◌≡◌, filter, take}
use Rattle.rx_explain.specs.Seen.{is_of}
use Rattle.rx_explain.proofs.seen.claims_of.Given as goal

abbrev pub invariant-loop-traced : goal.invariant-loop-traced
invariant-loop-traced l = l.kept.items ≡ filter (is_of l.own l.provider) (take l.traced-index l.claims)
