use Rattle.rx_print.proofs.Reading.{escaped_read}
use Rattle.rx_print.proofs.law.read_back.Goals as goal

pub returns : goal.returns
returns c style bytes are = escaped_read style bytes are
