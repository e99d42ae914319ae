use Rattle.rx_batch.proofs.Steps.{as_between, as_within, gives_same, end_read, begun_end_read}
use Rattle.rx_batch.proofs.reader.Reader.end.Goals as goal

pub returns-in-None : goal.returns-in-None
returns-in-None c text h =
    gives_same c.end.result _ (rw (end_read c.args.self.front text (as_between c.args.self text c.in-None.is h)) c.end.ensures)

pub returns-in-Some : goal.returns-in-Some
returns-in-Some c text h =
    begun_end_read c.args.self.front text c.in-Some.field-0 (as_within c.args.self text c.in-Some.field-0 c.in-Some.is h)
