use Rattle.rx_batch.proofs.Readings.{file_is_read, fault_is_read, batch_is_file, fault_is_there}
use Rattle.rx_batch.proofs.law.one_reading.Goals as goal

pub returns-clause-reads : goal.returns-clause-reads
returns-clause-reads c bytes batch = (file_is_read bytes batch.head batch.details, batch_is_file bytes batch)

pub returns-clause-refuses : goal.returns-clause-refuses
returns-clause-refuses c bytes f = (fault_is_read bytes f, fault_is_there bytes f)
