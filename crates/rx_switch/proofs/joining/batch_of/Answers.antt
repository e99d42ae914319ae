use Rattle.std.proofs.Common.{sym}
use Rattle.rx_batch.specs.Reading.{HasFault}
use Rattle.rx_switch.specs.declared.join_fault.JoinFault.TheVariants as fault
use Rattle.rx_switch.specs.JoinRefused.{IsNotJoined}
use Rattle.rx_switch.specs.JoinRefused.IsNotJoined.{batch, memory}
use Rattle.rx_switch.proofs.JoinFaults.{by_text}
use Rattle.rx_switch.proofs.joining.batch_of.Goals as goal

pub returns-in-Err-clause-refused : goal.returns-in-Err-clause-refused
returns-in-Err-clause-refused c g doors some have is =
    rw c.of_batch.ensures (by_text (IsNotJoined g) fault.Batch (HasFault g.batch) (λ f has. batch doors f some have has) memory
    c.in-Err.refused (rw (sym is) at c.in-Err.ensures.refuses))
