use Rattle.std.proofs.Common.{◌≡◌, suc, ◌-◌, ◌≤◌, [], ◌∷◌, ◌++◌, length, map, sym, ◌∙◌, arith}
use Rattle.std.proofs.lemmas.List.{get_or-map, length_push, map-set}
use Rattle.rx_schedule.specs.Links.{number_at, row_of}
use Rattle.rx_schedule.proofs.Running.{taken_counted, taken_room, taken_there, taken_waits}
use Rattle.rx_schedule.proofs.Released.{free_now, more_now, none_popped, others_now, row_now, same_rows}
use Rattle.rx_schedule.proofs.followers.release.Goals as goal

pub release_one-requires : goal.release_one-requires
release_one-requires c =
    let n = length c.args.rows.now in
    let rows = map (λ v. v.items) c.links.rows in
    let row = c.pop.new.self.items in
    let long : length c.links.rows ≡ n = c.links.auto.rows in
    let one : 1 ≤ c.args.place = c.requires.there.0 in
    let to : c.args.place ≤ n = c.requires.there.1 in
    let popped : row_of rows c.args.place ≡ row ++ c.in-Some.next ∷ [] =
    get_or-map (λ v. v.items) c.links.rows (c.args.place - 1) c.index-rows-place.result [] (omega arith)
    ∙ c.in-Some.ensures.items in
    let counted = c.links.invariant.counted in
    let free = c.links.invariant.free in
    let there = taken_there n rows c.links.waiting c.links.order.items counted free c.args.place c.in-Some.next row one to popped in
    let many : length c.links.waiting ≡ n = counted.as_many in
    let room = taken_room n rows c.links.waiting c.links.order.items counted free c.args.place c.in-Some.next row one to popped in
    record {
      there = (there.0, (let up : c.in-Some.next ≤ n = there.1 in omega arith));
      waits = taken_waits n rows c.links.waiting c.links.order.items counted free c.args.place c.in-Some.next row one to popped;
      room = omega arith;
    }

pub links-smaller : goal.links-smaller
links-smaller c =
    let long : length c.links.rows ≡ length c.args.rows.now = c.links.auto.rows in
    let one : 1 ≤ c.args.place = c.requires.there.0 in
    let to : c.args.place ≤ length c.args.rows.now = c.requires.there.1 in
    let before : row_of (map (λ v. v.items) c.links.rows) c.args.place ≡ c.pop.new.self.items ++ c.in-Some.next ∷ [] =
    get_or-map (λ v. v.items) c.links.rows (c.args.place - 1) c.index-rows-place.result [] (omega arith)
    ∙ c.in-Some.ensures.items in
    rw (row_now (λ v. v.items) c.links.rows c.args.place c.pop.new.self one (omega arith), before)
    (omega (arith, length_push c.pop.new.self.items c.in-Some.next))

pub links-preserved : goal.links-preserved
links-preserved c =
    let n = length c.args.rows.now in
    let rows = map (λ v. v.items) c.links.rows in
    let row = c.pop.new.self.items in
    let place = c.args.place in
    let next = c.in-Some.next in
    let now = number_at c.links.waiting next - 1 in
    let long : length c.links.rows ≡ n = c.links.auto.rows in
    let one : 1 ≤ place = c.requires.there.0 in
    let to : place ≤ n = c.requires.there.1 in
    let popped : row_of rows place ≡ row ++ next ∷ [] =
    get_or-map (λ v. v.items) c.links.rows (place - 1) c.index-rows-place.result [] (omega arith)
    ∙ c.in-Some.ensures.items in
    let counted = c.links.invariant.counted in
    let free = c.links.invariant.free in
    let waits : 1 ≤ number_at c.links.waiting next =
    taken_waits n rows c.links.waiting c.links.order.items counted free place next row one to popped in
    let is : suc now ≡ number_at c.links.waiting next = omega arith in
    let set_rows = map-set (λ v. v.items) c.links.rows (place - 1) c.pop.new.self in
    record {
      counted = rw (set_rows, c.release_one.ensures.waiting)
          (taken_counted n rows c.links.waiting c.links.order.items counted free place next row one to popped now is);
      free = rw c.release_one.ensures.waiting
          (free_now n rows c.links.waiting c.links.order.items counted free place next row one to popped now
          c.release_one.new.order.items is c.release_one.ensures.order);
      more = more_now c.args.order.now.items c.links.order.items c.release_one.new.order.items next now
          c.links.invariant.more c.release_one.ensures.order;
      room = c.release_one.ensures.room ∙ c.links.invariant.room;
      others = λ p from apart. others_now (λ v. v.items) c.links.rows place c.pop.new.self one p from apart
          ∙ c.links.invariant.others p from apart;
    }

pub returns-clause-counted : goal.returns-clause-counted
returns-clause-counted c =
    let place = c.args.place in
    let long : length c.links.rows ≡ length c.args.rows.now = c.links.auto.rows in
    let one : 1 ≤ place = c.requires.there.0 in
    let to : place ≤ length c.args.rows.now = c.requires.there.1 in
    let gone = none_popped c.pop.result _ c.pop.new.self.items _ _ c.in_default.not-Some c.pop.ensures.items
    c.pop.ensures.cases c.pop.ensures.rest in
    let row = get_or-map (λ v. v.items) c.links.rows (place - 1) c.index-rows-place.result [] (omega arith) in
    rw (same_rows (λ v. v.items) c.links.rows place c.pop.new.self (gone.0 ∙ sym row)) c.links.invariant.counted

pub returns-clause-emptied : goal.returns-clause-emptied
returns-clause-emptied c =
    let place = c.args.place in
    let long : length c.links.rows ≡ length c.args.rows.now = c.links.auto.rows in
    let one : 1 ≤ place = c.requires.there.0 in
    let to : place ≤ length c.args.rows.now = c.requires.there.1 in
    let gone = none_popped c.pop.result _ c.pop.new.self.items _ _ c.in_default.not-Some c.pop.ensures.items
    c.pop.ensures.cases c.pop.ensures.rest in
    row_now (λ v. v.items) c.links.rows place c.pop.new.self one (omega arith) ∙ gone.1

pub returns-clause-others : goal.returns-clause-others
returns-clause-others c =
    λ p from apart. others_now (λ v. v.items) c.links.rows c.args.place c.pop.new.self c.requires.there.0 p from apart
    ∙ c.links.invariant.others p from apart
