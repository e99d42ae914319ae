-- The first plan's response file.
use Rattle.std.proofs.lemmas.Result.{err_from_is_err_and}
use Rattle.rx_switch.proofs.joined_files.stamp_of.Goals as goal

pub returns-in_err-file-clause-refused : goal.returns-in_err-file-clause-refused
returns-in_err-file-clause-refused c g any plans t next is =
    let p = err_from_is_err_and c.from_residual.result c.from_residual.ensures.1 in
    rw (p.1, p.2) (c.in_err-file.ensures.refused g any plans t next is)

pub returns-clause-first : goal.returns-clause-first
returns-clause-first c = rw c.stamp_in.ensures (c.in_ok-file.file.details, c.in_ok-file.ensures.read)
