use Rattle.std.proofs.Common.{sym, arith}
use Rattle.std.proofs.lemmas.List.{drop_all}
use Rattle.rx_d0_request.proofs.Cuts.{to_end}
use Rattle.rx_d0_request.proofs.header.after_header.Goals as goal

pub returns-then-bytes-lt-HEADER_LENGTH : goal.returns-then-bytes-lt-HEADER_LENGTH
returns-then-bytes-lt-HEADER_LENGTH c = sym (drop_all 56 c.args.bytes.now (omega arith))

pub returns-else-bytes-lt-HEADER_LENGTH : goal.returns-else-bytes-lt-HEADER_LENGTH
returns-else-bytes-lt-HEADER_LENGTH c = to_end 56 c.args.bytes.now
