use Rattle.std.proofs.Common.{sym}
use Rattle.rx_batch.specs.Reading.{HasFault}
use Rattle.rx_show.specs.ResponseFile.{as_batch}
use Rattle.rx_switch.specs.declared.join_fault.JoinFault.TheVariants as fault
use Rattle.rx_switch.specs.JoinRefused.{IsNotJoined}
use Rattle.rx_switch.specs.JoinRefused.IsNotJoined.{memory, response}
use Rattle.rx_switch.proofs.JoinFaults.{by_text}
use Rattle.rx_switch.proofs.joined_files.read_file.Goals as goal

pub returns-in-Err-clause-refused : goal.returns-in-Err-clause-refused
returns-in-Err-clause-refused c g x t next is =
    rw c.of_response.ensures (by_text (IsNotJoined g) (fault.Response c.args.number) (HasFault (as_batch t.response))
    (λ f has. response c.args.number x t f next has) memory c.in-Err.refused (rw (sym is) at c.in-Err.ensures.refuses))
