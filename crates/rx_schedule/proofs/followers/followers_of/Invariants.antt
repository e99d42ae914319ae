-- The links so far are followed, and none is counted more often than there are.
use Rattle.std.proofs.Common.{ℕ, ◌≤◌, map, take}
use Rattle.rx_schedule.specs.Links.{AreCounted, AreRows, number_at}
use Rattle.rx_schedule.proofs.followers.followers_of.Given as goal

abbrev pub invariant-links : goal.invariant-links
invariant-links l = record {
  rows : AreRows l.count (take l.link-index l.links) (map (λ v. v.items) l.rows.items);
  counted : AreCounted l.count (map (λ v. v.items) l.rows.items) l.waiting.items;
  few : (q : ℕ) → number_at l.waiting.items q ≤ l.link-index;
}
