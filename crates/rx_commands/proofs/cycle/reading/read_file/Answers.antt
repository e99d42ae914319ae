use Rattle.rx_commands.proofs.CycleRead.{not_response}
use Rattle.rx_commands.proofs.cycle.reading.read_file.Goals as goal

pub returns-in-Err-clause-refused : goal.returns-in-Err-clause-refused
returns-in-Err-clause-refused c =
    rw c.of_response.ensures (not_response c.args.at c.args.bytes.now c.in-Err.fault c.in-Err.ensures.refuses)
