use Rattle.rx_batch.proofs.Readings.{gives_file, gives_fault}
use Rattle.rx_switch.proofs.accepting.BatchFile.read.Goals as goal

pub returns-in-Bytes-clause-ok : goal.returns-in-Bytes-clause-ok
returns-in-Bytes-clause-ok c text has = let same = rw c.in-Bytes.is at has in rw (← same) c.read_batch.ensures.ok

pub returns-in-Bytes-clause-refuses : goal.returns-in-Bytes-clause-refuses
returns-in-Bytes-clause-refuses c text has = let same = rw c.in-Bytes.is at has in rw (← same) c.read_batch.ensures.refuses

pub returns-in-Fed-clause-ok : goal.returns-in-Fed-clause-ok
returns-in-Fed-clause-ok c text has =
    let stands = rw c.in-Fed.is at has in gives_file text c.finish.result (c.finish.ensures.value text stands)

pub returns-in-Fed-clause-refuses : goal.returns-in-Fed-clause-refuses
returns-in-Fed-clause-refuses c text has =
    let stands = rw c.in-Fed.is at has in gives_fault text c.finish.result (c.finish.ensures.value text stands)
