-- The places are counted and the free ones listed all along; only the row of this place grows shorter.
use Rattle.std.proofs.Common.{◌≡◌, ◌≢◌, ◌≤◌, ◌++◌, ℕ, List, length, map, vec_capacity}
use Rattle.rx_schedule.specs.Links.{AreCounted, AreFree, row_of}
use Rattle.rx_schedule.proofs.followers.release.Given as goal

abbrev pub invariant-links : goal.invariant-links
invariant-links l = record {
  counted : AreCounted (length l.initial.rows) (map (λ v. v.items) l.rows) l.waiting;
  free : AreFree (length l.initial.rows) l.waiting l.order.items;
  more : (more : List ℕ) × (l.order.items ≡ l.initial.order.items ++ more);
  room : vec_capacity l.order ≡ vec_capacity l.initial.order;
  others : (p : ℕ) → 1 ≤ p → p ≢ l.place
      → row_of (map (λ v. v.items) l.rows) p ≡ row_of (map (λ v. v.items) l.initial.rows) p;
}

abbrev pub decreases-links : goal.decreases-links
decreases-links l = length (row_of (map (λ v. v.items) l.rows) l.place)
