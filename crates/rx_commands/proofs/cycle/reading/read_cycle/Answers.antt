use Rattle.std.proofs.lemmas.Result.{err_from_is_err_and}
use Rattle.rx_commands.proofs.CycleRead.{bad_file, file_more}
use Rattle.rx_commands.proofs.cycle.reading.read_cycle.Goals as goal

pub returns-in_err-add_file-clause-refused : goal.returns-in_err-add_file-clause-refused
returns-in_err-add_file-clause-refused c =
    let p = err_from_is_err_and c.from_residual.result c.from_residual.ensures.1 in
    let here = rw c.deref.ensures.value at c.in_err-add_file.ensures.refused in
    rw (p.1, p.2)
    (bad_file c.args.files.now c.loop-at.at c.index-files-at.result c.loop-at.cycle.runs.items c.loop-at.cycle.replies.items
    c.in_err-add_file.field-0.0 c.loop-at-test.true c.index-files-at.is c.loop-at.invariant here)

pub loop-at-preserved : goal.loop-at-preserved
loop-at-preserved c =
    let here = rw c.deref.ensures.value at c.in_ok-add_file.ensures.added in
    file_more c.args.files.now c.loop-at.at c.index-files-at.result c.loop-at.cycle.runs.items c.loop-at.cycle.replies.items
    _ _ c.loop-at-test.true c.index-files-at.is c.loop-at.invariant here
