use Rattle.std.proofs.Common.{refl, arith}
use Rattle.rx_desk.proofs.Left.{all_taken, none_ready, some_left}
use Rattle.rx_desk.proofs.Steps.{fits_read, inside_read, kept_stay, may, one_more, one_waits, out_read}
use Rattle.rx_desk.proofs.Steps.{placed_read, room_taken, state_there, took_read, within}
use Rattle.rx_desk.proofs.desk.Desk.next.Goals as goal

pub returns-then-self-eq0 : goal.returns-then-self-eq0
returns-then-self-eq0 c = rw (← c.self.view_is) (refl, all_taken _ _ _ _ _ _ _ _ _ c.self.invariant c.if-self-eq0.true)

pub returns-in_default : goal.returns-in_default
returns-in_default c =
    rw (← c.self.view_is) (
      refl,
      none_ready _ _ _ _ _ _ _ _ _ c.self.invariant c.in_default.ensures.next,
      some_left _ _ _ _ _ _ _ _ _ c.self.invariant c.if-self-eq0.false,
    )

pub index-requires-2 : goal.index-requires-2
index-requires-2 c = let w = within _ _ _ _ _ _ _ _ _ c.self.invariant c.in-Some.place c.in-Some.ensures.next in omega arith

pub take_books-requires : goal.take_books-requires
take_books-requires c = record {
  placed = placed_read _ _ _ _ _ _ _ _ _ c.self.invariant c.in-Some.place c.in-Some.ensures.next c.index.result.now c.index.ensures;
  inside = inside_read _ _ _ _ _ _ _ _ _ c.self.invariant c.in-Some.place c.in-Some.ensures.next c.index.result.now c.index.ensures;
}

-- the books went back
pub invariant_of-self : goal.invariant_of-self
invariant_of-self c = kept_stay _ _ _ _ _ _ _ _ _ c.self.invariant c.take_books.new.shelf c.in_default-take_books.ensures.err

pub note-requires : goal.note-requires
note-requires c = room_taken _ _ _ _ _ _ _ _ _ c.self.invariant c.in-Some.place c.in-Some.ensures.next

pub overflow_sub-self : goal.overflow_sub-self
overflow_sub-self c = one_waits _ _ _ _ _ _ _ _ _ c.self.invariant c.in-Some.place c.in-Some.ensures.next

pub mark_out-requires : goal.mark_out-requires
mark_out-requires c = state_there _ _ _ _ _ _ _ _ _ c.self.invariant c.in-Some.place c.in-Some.ensures.next

pub index-terms-requires : goal.index-terms-requires
index-terms-requires c =
    let w = within _ _ _ _ _ _ _ _ _ c.self.invariant c.in-Some.place c.in-Some.ensures.next in
    let e = c.self.invariant.desk.of_job.terms.one_each in
    omega arith

pub new-requires-clause-in_batch : goal.new-requires-clause-in_batch
new-requires-clause-in_batch c =
    let w = within _ _ _ _ _ _ _ _ _ c.self.invariant c.in-Some.place c.in-Some.ensures.next in
    let few = c.self.invariant.desk.of_job.few in
    omega arith

pub new-requires-clause-fit : goal.new-requires-clause-fit
new-requires-clause-fit c =
    fits_read _ _ _ _ _ _ _ _ _ c.self.invariant c.in-Some.place c.in-Some.ensures.next
    c.index.result.now c.index.ensures c.take_books.new.shelf c.in-Ok.taken.parcel c.in-Ok.ensures.parcel
    c.in-Ok.taken.transmission c.index-2.result.now c.index-terms.result.now c.in-Ok.ensures.transmission c.index-2.ensures
    c.index-terms.ensures

pub invariant_of-self-2 : goal.invariant_of-self-2
invariant_of-self-2 c =
    let handed = rw (← c.in-Some.ensures.value) at c.hand.ensures.handed in
    rw (c.mark_out.ensures, c.in-Ok.ensures.kept) (took_read _ _ _ _ _ _ _ _ _ c.self.invariant
    c.in-Some.place c.in-Some.ensures.next c.index.result.now c.index.ensures
    c.take_books.new.shelf c.in-Ok.taken.parcel c.in-Ok.ensures.parcel _ c.note.new.history.items c.hand.new.self
    c.note.ensures.items c.note.ensures.room handed c.hand.ensures.passed c.hand.ensures.footprints)

pub returns : goal.returns
returns c =
    let out = out_read _ _ _ _ _ _ _ _ _ c.self.invariant c.in-Some.place c.in-Some.ensures.next
    c.index.result.now c.index.ensures c.take_books.new.shelf c.in-Ok.taken.parcel c.in-Ok.ensures.parcel
    c.in-Ok.taken.transmission c.index-2.result.now c.index-terms.result.now c.in-Ok.ensures.transmission c.index-2.ensures
    c.index-terms.ensures
    c.note.new.history.items c.note.ensures.items in
    rw (← c.self.view_is, c.new.ensures) (
      may _ _ _ _ _ _ _ _ _ c.self.invariant c.in-Some.place c.in-Some.ensures.next,
      one_more _ _ _ _ c.note.ensures.items,
      out,
    )
