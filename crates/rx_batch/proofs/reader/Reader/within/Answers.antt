use Rattle.std.proofs.Common.{[], append-nil}
use Rattle.std.proofs.lemmas.Result.{err_from_is_err_and}
use Rattle.rx_batch.proofs.Steps.{inside_all, more_read, second_passed, bad_passed, closed_passed}
use Rattle.rx_batch.proofs.reader.Reader.within.Goals as goal

pub returns-in_default-clause-ok : goal.returns-in_default-clause-ok
returns-in_default-clause-ok c text h =
    rw c.in_ok-extend.ensures.ok
    (more_read c.args.self.now.front text c.args.body c.args.bytes.now [] (inside_all c.args.bytes.now c.in_default.ensures)
    (rw (append-nil c.args.bytes.now) h))

pub returns-then-rest-eq-STX-clause-err : goal.returns-then-rest-eq-STX-clause-err
returns-then-rest-eq-STX-clause-err c text h =
    second_passed c.args.bytes.now c.in-Some.end c.in-Some.ensures c.args.self.now.front text c.args.body h
    (rw c.split_at.ensures.back at c.if-rest-eq-STX.true)

pub returns-in_err-joined_record-clause-err : goal.returns-in_err-joined_record-clause-err
returns-in_err-joined_record-clause-err c text h =
    let p = err_from_is_err_and c.from_residual-in_err-joined_record.result c.from_residual-in_err-joined_record.ensures.1 in
    rw (p.1, p.2)
    (bad_passed c.args.bytes.now c.in-Some.end c.in-Some.ensures c.args.self.now.front text c.args.body h c.in_err-joined_record.field-0.0
    (rw c.split_at.ensures.back at c.if-rest-eq-STX.false) (rw c.split_at.ensures.front at c.in_err-joined_record.ensures))

pub returns-clause-ok : goal.returns-clause-ok
returns-clause-ok c text h =
    rw (c.requires.none, c.split_at.ensures.back)
    (closed_passed c.args.bytes.now c.in-Some.end c.in-Some.ensures c.args.self.now.front text c.args.body h c.joined_record.new.self
    (rw c.split_at.ensures.back at c.if-rest-eq-STX.false) (rw c.split_at.ensures.front at c.in_ok-joined_record.ensures))
