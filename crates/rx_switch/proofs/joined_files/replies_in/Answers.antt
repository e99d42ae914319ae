-- The plan's records, in its response file.
use Rattle.std.proofs.Common.{ap, arith, length, refl}
use Rattle.std.proofs.lemmas.Result.{err_from_is_err_and}
use Rattle.rx_switch.specs.JoinParts.{join_inputs, response_texts}
use Rattle.rx_switch.proofs.Finished.{are_places, long_asked}
use Rattle.rx_switch.proofs.JoinDetails.{as_long}
use Rattle.rx_switch.proofs.joined_files.replies_in.Goals as goal

pub returns-in_err-file-clause-refused : goal.returns-in_err-file-clause-refused
returns-in_err-file-clause-refused c g plans p next at first is =
    let e = err_from_is_err_and c.from_residual.result c.from_residual.ensures.1 in
    rw (e.1, e.2) (c.in_err-file.ensures.refused g plans (response_texts c.args.plan.now) next refl first)

pub replies_of_plan-requires-clause-places : goal.replies_of_plan-requires-clause-places
replies_of_plan-requires-clause-places c =
    let x = c.requires.dealt.0 in
    are_places x c.args.dealt.now c.requires.dealt.2 c.args.number

pub replies_of_plan-requires-clause-long : goal.replies_of_plan-requires-clause-long
replies_of_plan-requires-clause-long c =
    let x = c.requires.dealt.0 in
    let asked = long_asked x c.args.dealt.now c.requires.dealt.2 in
    let same = ap length c.requires.dealt.1 in
    let long = as_long c.in_ok-file.file.details c.args.batch.now.details c.in_ok-file.ensures.read.references in
    let read = ap length c.as_slice.ensures in
    omega (arith, asked, same, long, read)

pub replies_of_plan-requires-clause-few : goal.replies_of_plan-requires-clause-few
replies_of_plan-requires-clause-few c =
    let long = as_long c.in_ok-file.file.details c.args.batch.now.details c.in_ok-file.ensures.read.references in
    let read = ap length c.as_slice.ensures in
    let few = c.requires.few in
    omega (arith, long, read, few)

pub returns-clause-refused : goal.returns-clause-refused
returns-clause-refused c g plans p next at first is =
    let refused = rw c.as_slice.ensures at c.replies_of_plan.ensures.refused in
    refused g (join_inputs c.args.dealt.now.stamp plans c.args.batch.now) (response_texts c.args.plan.now) p next at
    c.in_ok-file.ensures.read is
