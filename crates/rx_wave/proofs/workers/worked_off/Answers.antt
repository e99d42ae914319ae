use denote.Param.Send.{sendable}
use Rattle.rx_wave.proofs.Sent.{counter_sent}
use Rattle.rx_wave.proofs.workers.worked_off.Goals as goal

pub start_all-refused-requires-send-C : goal.start_all-refused-requires-send-C
start_all-refused-requires-send-C g c κs within = search (sendable, counter_sent) depth 60
