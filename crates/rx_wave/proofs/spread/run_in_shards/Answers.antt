-- The opened books and what the shards leave are those of the job.
use Rattle.rx_wave.proofs.spread.run_in_shards.Goals as goal

pub joined-requires-clause-opened : goal.joined-requires-clause-opened
joined-requires-clause-opened g c κs within =
    let opened = c.opened_and_run-opened.ensures.opened in
    rw c.in_ok-opened.was at opened

pub joined-requires-clause-run : goal.joined-requires-clause-run
joined-requires-clause-run g c κs within =
    let ran = c.opened_and_run-opened.ensures.run in
    rw (c.in_ok-shards.was, c.in-Some.is) at ran
