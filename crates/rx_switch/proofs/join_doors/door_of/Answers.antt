use Rattle.rx_switch.specs.JoinParts.{response_texts}
use Rattle.rx_switch.proofs.JoinFaults.{sheet_refused}
use Rattle.rx_switch.proofs.join_doors.door_of.Goals as goal

pub returns-in-Err-clause-refused : goal.returns-in-Err-clause-refused
returns-in-Err-clause-refused c g doors next =
    rw c.of_sheet.ensures (sheet_refused g c.args.number doors (response_texts c.args.plan.now) next c.in-Err.refused c.in-Err.ensures)
