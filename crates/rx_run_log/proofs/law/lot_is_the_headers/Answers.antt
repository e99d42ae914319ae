use Rattle.rx_run_log.proofs.Lots.{lot_is}
use Rattle.rx_run_log.proofs.law.lot_is_the_headers.Goals as goal

pub returns : goal.returns
returns c bytes head details file room = lot_is bytes head details file room
