use Rattle.std.proofs.Common.{◌≡◌, ◌≤◌, ◌+◌, ℕ, Bool, true, false, List, ◌++◌, length, take, ap, arith, ◌∙◌, if◌then◌else◌}
use Rattle.std.specs.Prelude.{is_ok, OnOk, Result, Ok, Err}
use Rattle.std.proofs.lemmas.List.{take-append-le, length-replicate, length-take}
use Rattle.rx_io.specs.Reading.{least_room}
use Rattle.rx_io.proofs.reading.make_room.Goals as goal

-- a text that may have grown has the front that it had
front_stays : (grown : Bool) (n : ℕ) (old more new : List ℕ) → n ≤ length old → new ≡ (if grown then old ++ more else old)
    → take n new ≡ take n old
front_stays true n old more new within is = ap (take n) is ∙ take-append-le n old more within
front_stays false n old more new within is = ap (take n) is

-- a text that has grown is that much longer
room_grown : {X E : Type 0} (r : Result X E) (n old more new : ℕ) → new ≡ (if is_ok r then old + more else old) → n ≤ old + more
    → OnOk r (n ≤ new)
room_grown (Ok x) n old more new is room = omega arith
room_grown (Err e) n old more new is room = tt

pub returns-clause-front : goal.returns-clause-front
returns-clause-front c =
    let items = c.extend_from_slice.ensures.items in
    let long = c.args.text.now.ok in
    front_stays _ c.args.len c.args.text.now.items _ _ (omega (arith, c.requires.within, long.0)) items

pub returns-clause-room : goal.returns-clause-room
returns-clause-room c =
    room_grown c.extend_from_slice.result (c.args.len + least_room) _ _ _ c.extend_from_slice.ensures.len
    (omega (arith, length-take {A = ℕ}, length-replicate {A = ℕ}, c.len-2.ensures, c.room_within-room.ensures))
