use Rattle.std.proofs.Common.{◌≡◌, length, rules}
use Rattle.rx_batch.proofs.Spellings.{detail_again}
use Rattle.rx_batch.proofs.writing.put_detail.Goals as goal

pub returns-clause-again : goal.returns-clause-again
returns-clause-again c =
    let ten : length c.args.detail.now.reference ≡ 10 = search rules in
    detail_again c.args.detail.now ten
