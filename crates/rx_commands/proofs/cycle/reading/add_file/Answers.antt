use Rattle.std.proofs.Common.{◌++◌, ◌∷◌, [], ap, ◌∙◌}
use Rattle.rx_d0_reply.proofs.Written.{on_ok}
use Rattle.rx_commands.proofs.CycleRead.{appended}
use Rattle.rx_commands.proofs.cycle.reading.add_file.Goals as goal

pub returns-clause-added : goal.returns-clause-added
returns-clause-added c =
    let batch = c.in_ok-batch.batch in
    let old = c.args.cycle.now in
    let runs = c.in_ok-push.ensures.items ∙ ap (λ run. old.runs.items ++ run ∷ []) c.run_of.ensures in
    let more = rw c.as_slice.ensures at c.add_replies.ensures.added in
    on_ok c.add_replies.result
    (appended c.args.bytes.now batch.head batch.details old.runs.items _ old.replies.items _ c.in_ok-batch.ensures.read runs)
    more
