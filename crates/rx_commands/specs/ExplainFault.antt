-- Meaning: the fault of a response file that `explain` is given.
use Rattle.rx_batch.specs.declared.fault.BatchFault.{BatchFault}
use Rattle.rx_batch.specs.declared.fault.BatchFault.TheVariants as batch
use Rattle.rx_switch.specs.declared.fault.SwitchFault.TheVariants as fault
use Rattle.rx_commands.specs.declared.explain_fault.ExplainFault.{ExplainFault}
use Rattle.rx_commands.specs.declared.explain_fault.ExplainFault.TheVariants.{Refused, Response}

-- out of memory that is met there is the command's own, and any other fault the file's
abbrev pub of_response : BatchFault → ExplainFault
of_response batch.Memory = Refused fault.Memory
of_response f = Response f
