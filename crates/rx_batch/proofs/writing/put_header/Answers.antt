use Rattle.std.proofs.Common.{◌≡◌, length, rules}
use Rattle.rx_batch.proofs.Spellings.{header_again}
use Rattle.rx_batch.proofs.writing.put_header.Goals as goal

pub returns-clause-again : goal.returns-clause-again
returns-clause-again c kind =
    let sender : length c.args.head.now.sender ≡ 24 = search rules in
    let receiver : length c.args.head.now.receiver ≡ 24 = search rules in
    header_again c.args.head.now kind sender receiver c.put_lot.ensures.again
