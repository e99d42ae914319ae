use Rattle.rx_sheet.proofs.OneReading.{read_said, refused_said, sheet_failed, sheet_said}
use Rattle.rx_sheet.proofs.law.one_reading.Goals as goal

pub returns-clause-reads : goal.returns-clause-reads
returns-clause-reads c text plan = (sheet_said, read_said text plan)

pub returns-clause-refuses : goal.returns-clause-refuses
returns-clause-refuses c text fault = (sheet_failed, refused_said text fault)
