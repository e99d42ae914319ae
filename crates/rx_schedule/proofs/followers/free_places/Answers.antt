use Rattle.std.proofs.Common.{◌≡◌, ◌≤◌, ◌+◌, length, refl, arith, subst, vec_capacity}
use Rattle.rx_schedule.specs.Links.{AreFree}
use Rattle.rx_schedule.proofs.Followed.{free_kept, free_next}
use Rattle.rx_schedule.proofs.followers.free_places.Goals as goal
use Rattle.rx_schedule.proofs.followers.free_places.Goals.{then-links-eq0+in_ok-push, else-links-eq0}

pub places-preserved : goal.places-preserved
places-preserved c =
    let waiting = c.args.waiting.now in
    let free = c.places.invariant.free in
    let room : length waiting ≤ vec_capacity c.places.order = c.places.invariant.room in
    elim c.if-links-eq0.branch [
      | then-links-eq0+in_ok-push w ↦ record {
        free = rw (w.order-is, w.in_ok-push.ensures.items) (free_next c.places.at (c.places.at + 1) waiting
            c.places.order.items free refl w.if-links-eq0.true);
        room = rw w.order-is (let g : vec_capacity c.places.order ≤ vec_capacity w.push.new.self =
            w.in_ok-push.ensures.capacity in omega arith);
      }
      | else-links-eq0 w ↦ record {
        free = rw w.order-is (free_kept c.places.at (c.places.at + 1) waiting c.places.order.items free refl
            w.if-links-eq0.false);
        room = rw w.order-is room;
      }
    ]

pub returns-clause-free : goal.returns-clause-free
returns-clause-free c =
    let many : c.places.at ≡ length c.args.waiting.now = omega arith in
    subst (λ n. AreFree n c.args.waiting.now c.places.order.items) many c.places.invariant.free
