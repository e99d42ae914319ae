use Rattle.rx_serial.proofs.Places.{named_there}
use Rattle.rx_serial.proofs.in_order.InOrderBasis.row_under.Goals as goal

pub unreachable-requires : goal.unreachable-requires
unreachable-requires c =
    c.in-None.ensures.absent (named_there c.args.self.now.keys c.args.key.now c.requires)
