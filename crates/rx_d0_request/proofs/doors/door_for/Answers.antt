-- The named plan's door, or one that is missed by just one thing.
use Rattle.std.proofs.Common.{◌≡◌, ◌<◌, ◌≤◌, [], get_or, length, true, false, sym, ap, ◌∙◌, arith}
use Rattle.std.specs.List.{list_any}
use Rattle.rx_fields.specs.declared.door.Door.{Door}
use Rattle.rx_d0_request.specs.Doors.{has_bin, plan_at}
use Rattle.rx_d0_request.proofs.Strays.{read_by_bin, read_by_number, read_named}
use Rattle.rx_d0_request.proofs.doors.door_for.Goals as goal

pub returns-then-number-doors : goal.returns-then-number-doors
returns-then-number-doors c = λ bytes asks.
    let doors = c.args.doors.now in
    let asked = c.args.asked.now in
    let none : Door = record { bin = []; pcn = [] } in
    let e : c.plan_at-number.result ≡ plan_at asked doors = c.plan_at-number.ensures in
    let low : plan_at asked doors < length doors = omega (arith, e, c.if-number-doors.true) in
    read_named doors asked bytes (get_or doors c.plan_at-number.result none) none low (ap (λ n. get_or doors n none) e) asks

pub returns-then-has_bin : goal.returns-then-has_bin
returns-then-has_bin c = λ bytes asks.
    let doors = c.args.doors.now in
    let asked = c.args.asked.now in
    let e : c.plan_at-number.result ≡ plan_at asked doors = c.plan_at-number.ensures in
    let high : length doors ≤ plan_at asked doors = omega (arith, e, c.if-number-doors.false) in
    let has : list_any (has_bin asked) doors ≡ true = sym c.has_bin.ensures ∙ c.if-has_bin.true in
    read_by_number doors asked high bytes asks c.other-pcn.result has c.other-pcn.ensures

pub returns : goal.returns
returns c = λ bytes asks.
    let doors = c.args.doors.now in
    let asked = c.args.asked.now in
    let e : c.plan_at-number.result ≡ plan_at asked doors = c.plan_at-number.ensures in
    let high : length doors ≤ plan_at asked doors = omega (arith, e, c.if-number-doors.false) in
    let none : list_any (has_bin asked) doors ≡ false = sym c.has_bin.ensures ∙ c.if-has_bin.false in
    read_by_bin doors asked high bytes asks c.other-bin.result none c.other-bin.ensures
