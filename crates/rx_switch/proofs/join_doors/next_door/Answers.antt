-- The plan's sheet, or the door of an earlier one.
use Rattle.std.proofs.Common.{length}
use Rattle.std.proofs.lemmas.Result.{err_from_is_err_and}
use Rattle.rx_switch.specs.JoinParts.{response_texts}
use Rattle.rx_switch.specs.JoinRefused.IsNotJoined.{door}
use Rattle.rx_switch.proofs.join_doors.next_door.Goals as goal

pub returns-in_err-door-clause-refused : goal.returns-in_err-door-clause-refused
returns-in_err-door-clause-refused c g next =
    let p = err_from_is_err_and c.from_residual.result c.from_residual.ensures.1 in
    rw (p.1, p.2) (c.in_err-door.ensures.refused g c.args.doors.now next)

pub returns-in-Some-clause-refused : goal.returns-in-Some-clause-refused
returns-in-Some-clause-refused c g next =
    let found = c.in-Some.ensures.some in
    door (length c.args.doors.now) c.in-Some.earlier c.args.doors.now (response_texts c.args.plan.now) c.in_ok-door.door found.0
    next c.in_ok-door.ensures.read found.1 found.2
