-- What lies under the lock may go to another thread, for a desk may.
use denote.Param.Send.{IsSend, sendable}
use Rattle.std.proofs.Crossing.{crosses}
use Rattle.rx_desk.proofs.Sent.{desk_sent}
use Rattle.rx_wave.specs.contracts.counter.DeskCounter.{the_row as counter_row}

pub counter_sent : IsSend counter_row
counter_sent = search (sendable, crosses, desk_sent) depth 60
