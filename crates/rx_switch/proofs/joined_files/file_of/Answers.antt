-- The header isn't the batch's, or the bytes aren't a response file.
use Rattle.std.proofs.lemmas.Result.{err_from_is_err_and}
use Rattle.rx_switch.specs.JoinParts.{join_inputs}
use Rattle.rx_switch.specs.JoinRefused.IsNotJoined.{other_batch}
use Rattle.rx_switch.proofs.JoinFaults.{file_is, not_true, other_head}
use Rattle.rx_switch.proofs.joined_files.file_of.Goals as goal

pub returns-in_err-file-clause-refused : goal.returns-in_err-file-clause-refused
returns-in_err-file-clause-refused c g any plans t next is =
    let p = err_from_is_err_and c.from_residual.result c.from_residual.ensures.1 in
    rw (p.1, p.2) (c.in_err-file.ensures.refused g (join_inputs any plans c.args.batch.now) t next is)

pub returns-else-is_sent_back-clause-refused : goal.returns-else-is_sent_back-clause-refused
returns-else-is_sent_back-clause-refused c g any plans t next is =
    let own = c.in_ok-file.file in
    other_batch c.args.number (join_inputs any plans c.args.batch.now) t own.head own.details next
    (file_is t own.head own.details c.args.text.now is c.in_ok-file.ensures.read)
    (other_head c.args.batch.now.head own.head
    (not_true c.is_sent_back.result c.if-is_sent_back.false c.is_sent_back.ensures))
