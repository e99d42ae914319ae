use Rattle.rx_switch.specs.Planned.IsNotPlanned.{memory}
use Rattle.rx_commands.proofs.retraced.retrace.Goals as goal

pub returns-in_default-clause-refused : goal.returns-in_default-clause-refused
returns-in_default-clause-refused g c = memory

pub returns-in_default-answered-clause-refused : goal.returns-in_default-answered-clause-refused
returns-in_default-answered-clause-refused g c = memory

pub returns-in_default-read-clause-refused : goal.returns-in_default-read-clause-refused
returns-in_default-read-clause-refused g c = memory
