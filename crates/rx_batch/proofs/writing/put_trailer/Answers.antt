use Rattle.rx_batch.proofs.Spellings.{trailer_spelled}
use Rattle.rx_batch.proofs.writing.put_trailer.Goals as goal

pub returns-clause-again : goal.returns-clause-again
returns-clause-again c =
    trailer_spelled c.args.number c.from.result c.args.count c.digits_write-number.result c.digits_write-count.result
    c.from.ensures c.digits_write-number.ensures.text c.digits_write-number.ensures.again
    c.digits_write-count.ensures.text c.digits_write-count.ensures.again
