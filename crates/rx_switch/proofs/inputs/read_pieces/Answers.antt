use Rattle.rx_io.specs.declared.device.Device.TheVariants as device
use Rattle.rx_switch.proofs.Unread.{unread_at}
use Rattle.rx_switch.proofs.inputs.read_pieces.Goals as goal

pub returns-in-Err-clause-unread : goal.returns-in-Err-clause-unread
returns-in-Err-clause-unread g c =
    rw c.of_reading.ensures
    (unread_at device.Batch (g.S.Source.left c.args.source.now) c.in-Err.fault c.in-Err.ensures.long)
