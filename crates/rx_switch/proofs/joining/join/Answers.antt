-- The doors, the batch and the stamp are those of a join.
use Rattle.std.proofs.Common.{◌≤◌, ◌<◌, ◌∙◌, arith, length, map, refl, sym}
use Rattle.std.proofs.lemmas.List.{length-map}
use Rattle.std.proofs.lemmas.Result.{err_from_is_err_and}
use Rattle.rx_switch.specs.JoinParts.{given_join, response_texts, stamp_in}
use Rattle.rx_switch.specs.JoinRefused.IsNotJoined.{none}
use Rattle.rx_switch.proofs.JoinWhole.{first_plan, is_first, is_join, none_given, plans, some_given}
use Rattle.rx_switch.proofs.joining.join.Goals as goal

pub returns-then-is_empty-clause-refused : goal.returns-then-is_empty-clause-refused
returns-then-is_empty-clause-refused g c =
    none (none_given c.args.job.now.plans.now (sym c.is_empty.ensures ∙ c.if-is_empty.true))

pub returns-in_err-doors-clause-refused : goal.returns-in_err-doors-clause-refused
returns-in_err-doors-clause-refused g c =
    let p = err_from_is_err_and c.from_residual.result c.from_residual.ensures.1 in
    rw (p.1, p.2) (c.in_err-doors.ensures.refused (given_join c.args.job.now) refl)

pub returns-in_err-batch-clause-refused : goal.returns-in_err-batch-clause-refused
returns-in_err-batch-clause-refused g c =
    let p = err_from_is_err_and c.from_residual-in_err-batch.result c.from_residual-in_err-batch.ensures.1 in
    let texts = c.args.job.now.plans.now in
    let long = length-map texts response_texts in
    let one : 0 < length texts = some_given texts (sym c.is_empty.ensures ∙ c.if-is_empty.false) in
    let some : 1 ≤ length (map response_texts texts) = omega (arith, long, one) in
    rw (p.1, p.2) (c.in_err-batch.ensures.refused (given_join c.args.job.now) c.in_ok-doors.doors.items some
    c.in_ok-doors.ensures.read refl)

pub returns-in_err-stamp-clause-refused : goal.returns-in_err-stamp-clause-refused
returns-in_err-stamp-clause-refused g c =
    let p = err_from_is_err_and c.from_residual-in_err-stamp.result c.from_residual-in_err-stamp.ensures.1 in
    let texts = c.args.job.now.plans.now in
    let some : 0 < length texts = some_given texts (sym c.is_empty.ensures ∙ c.if-is_empty.false) in
    let job = given_join c.args.job.now in
    let batch = c.in_ok-batch.batch in
    let any = stamp_in batch.head in
    let have = c.in_ok-doors.ensures.read in
    let file = c.in_ok-batch.ensures.read in
    rw (p.1, p.2) (c.in_err-stamp.ensures.refused job any (plans job c.in_ok-doors.doors.items batch have file) _
    (is_first job c.in_ok-doors.doors.items batch have file any _ (first_plan texts _ some)) refl)

pub join_texts-requires-clause-few : goal.join_texts-requires-clause-few
join_texts-requires-clause-few g c κs within = c.in_ok-batch.ensures.read.few

pub join_texts-requires-clause-given : goal.join_texts-requires-clause-given
join_texts-requires-clause-given g c κs within =
    let texts = c.args.job.now.plans.now in
    let job = given_join c.args.job.now in
    let doors = c.in_ok-doors.doors.items in
    let batch = c.in_ok-batch.batch in
    let have = c.in_ok-doors.ensures.read in
    let file = c.in_ok-batch.ensures.read in
    let some : 0 < length texts = some_given texts (sym c.is_empty.ensures ∙ c.if-is_empty.false) in
    let is = is_join job doors batch have file texts _ c.in_ok-stamp.stamp some refl c.in_ok-stamp.ensures.first in
    rw c.deref.ensures.value (job, plans job doors batch have file, is)

pub returns-clause-joined : goal.returns-clause-joined
returns-clause-joined g c =
    let texts = c.args.job.now.plans.now in
    let job = given_join c.args.job.now in
    let doors = c.in_ok-doors.doors.items in
    let batch = c.in_ok-batch.batch in
    let have = c.in_ok-doors.ensures.read in
    let file = c.in_ok-batch.ensures.read in
    let some : 0 < length texts = some_given texts (sym c.is_empty.ensures ∙ c.if-is_empty.false) in
    let is = is_join job doors batch have file texts _ c.in_ok-stamp.stamp some refl c.in_ok-stamp.ensures.first in
    let joined = rw c.deref.ensures.value at c.join_texts.ensures.joined in
    joined job (plans job doors batch have file) is

pub returns-clause-refused : goal.returns-clause-refused
returns-clause-refused g c =
    let texts = c.args.job.now.plans.now in
    let job = given_join c.args.job.now in
    let doors = c.in_ok-doors.doors.items in
    let batch = c.in_ok-batch.batch in
    let have = c.in_ok-doors.ensures.read in
    let file = c.in_ok-batch.ensures.read in
    let some : 0 < length texts = some_given texts (sym c.is_empty.ensures ∙ c.if-is_empty.false) in
    let is = is_join job doors batch have file texts _ c.in_ok-stamp.stamp some refl c.in_ok-stamp.ensures.first in
    let refused = rw c.deref.ensures.value at c.join_texts.ensures.refused in
    refused job (plans job doors batch have file) is
