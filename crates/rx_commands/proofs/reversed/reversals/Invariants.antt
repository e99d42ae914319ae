-- The lines so far, of approved reversals each with its place.
use Rattle.std.proofs.Common.{◌≡◌, take}
use Rattle.std.specs.List.{flat_map}
use Rattle.rx_commands.specs.Reversed.{place_of}
use Rattle.rx_commands.proofs.reversed.reversals.Given as goal

abbrev pub invariant-loop-line : goal.invariant-loop-line
invariant-loop-line l = l.places.items ≡ flat_map place_of (take l.line-index l.lines)
