use Rattle.std.proofs.Common.{refl, ap, ◌∙◌}
use Rattle.rx_desk.proofs.Steps.{books_out, gave, not_passed, room_given, was_handed}
use Rattle.rx_desk.proofs.desk.Desk.put_back.Goals as goal

pub put_in-requires-clause-outside : goal.put_in-requires-clause-outside
put_in-requires-clause-outside c =
    let out = rw (← c.self.view_is) at c.requires in
    rw c.part-order.ensures.value
    (books_out _ _ _ _ _ _ _ _ _ c.self.invariant c.args.done.order out c.args.done c.part-order.ensures.within refl)

pub note-requires : goal.note-requires
note-requires c =
    let out = rw (← c.self.view_is) at c.requires in
    room_given _ _ _ _ _ _ _ _ _ c.self.invariant c.args.done.order out

pub pass-requires-clause-handed : goal.pass-requires-clause-handed
pass-requires-clause-handed c =
    let out = rw (← c.self.view_is) at c.requires in
    rw (c.place-place.ensures.value, c.part-order.ensures.value) (was_handed _ _ _ _ _ _ _ _ _ c.self.invariant c.args.done.order out)

pub pass-requires-clause-unpassed : goal.pass-requires-clause-unpassed
pass-requires-clause-unpassed c =
    let out = rw (← c.self.view_is) at c.requires in
    rw (c.place-place.ensures.value, c.part-order.ensures.value) (not_passed _ _ _ _ _ _ _ _ _ c.self.invariant c.args.done.order out)

pub invariant_of-self : goal.invariant_of-self
invariant_of-self c =
    let out = rw (← c.self.view_is) at c.requires in
    let place = c.place-place.ensures.value ∙ ap (λ p. p.0.place) c.part-order.ensures.value in
    let given = rw c.part-order.ensures.value at c.put_in.ensures in
    let next = rw place at c.note.ensures.items in
    let passed = rw place at c.pass.ensures.passed in
    rw (c.mark_given-state.ensures, c.part-order.ensures.value, place) (gave _ _ _ _ _ _ _ _ _ c.self.invariant
    c.args.done.order out c.args.done c.part-order.ensures.within refl c.put_in.new.shelf given _ c.note.new.history.items
    c.pass.new.self next c.note.ensures.room passed c.pass.ensures.handed c.pass.ensures.footprints)
