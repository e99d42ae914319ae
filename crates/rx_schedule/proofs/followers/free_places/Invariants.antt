-- The free places so far, with room for all.
use Rattle.std.proofs.Common.{◌≤◌, length, vec_capacity}
use Rattle.rx_schedule.specs.Links.{AreFree}
use Rattle.rx_schedule.proofs.followers.free_places.Given as goal

abbrev pub invariant-places : goal.invariant-places
invariant-places l = record {
  free : AreFree l.at l.waiting l.order.items;
  room : length l.waiting ≤ vec_capacity l.order;
}
