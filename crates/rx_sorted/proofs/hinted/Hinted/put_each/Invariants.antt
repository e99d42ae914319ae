-- The slots with the contents that are still to be put in.
use Rattle.std.proofs.Common.{◌≡◌, length, map}
use Rattle.rx_sorted.specs.Slots.{filled_of}
use Rattle.rx_sorted.proofs.hinted.Hinted.put_each.Given as goal

abbrev pub invariant-contents : goal.invariant-contents
invariant-contents g l =
    let filled = filled_of g.T.Key.Ord.cmp g.T.Keyed.key_of g.T.Content.Keyed.key_of g.T.Slot.filled in
    map (filled l.contents.items) l.self ≡ map (filled l.initial.contents.items) l.initial.self

abbrev pub decreases-contents : goal.decreases-contents
decreases-contents g l = length l.contents.items
