use Rattle.rx_print.proofs.Reading.{escaped_no_mark}
use Rattle.rx_print.proofs.law.no_mark_is_written.Goals as goal

pub returns : goal.returns
returns c style bytes are = escaped_no_mark style bytes are
