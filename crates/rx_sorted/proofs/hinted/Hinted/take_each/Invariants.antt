-- The contents taken so far, and those that are still taken; the same of the slots.
use Rattle.std.proofs.Common.{◌≡◌, ◌++◌, ◌≤◌, drop, length}
use Rattle.std.specs.Prelude.{vec_capacity}
use Rattle.rx_sorted.proofs.AllSlots.{all_over, content_read, reads}
use Rattle.rx_sorted.proofs.hinted.Hinted.take_each.Given as goal

abbrev pub invariant-loop-key : goal.invariant-loop-key
invariant-loop-key g l =
    let over_all = all_over g.T.Key.Ord.cmp g.T.Keyed.key_of g.T.Slot.emptied in
    let read = reads g.T.Key.Ord.cmp g.T.Keyed.key_of g.T.Slot.emptied (content_read g.T.Slot.held) in
    record {
      slots : over_all (drop l.key-index l.keys) l.self ≡ over_all l.keys l.initial.self;
      contents : l.contents.items ++ read (drop l.key-index l.keys) l.self ≡ read l.keys l.initial.self;
      count : length l.contents.items ≤ l.key-index;
      room : length l.keys ≤ vec_capacity l.contents;
    }
