use Rattle.std.proofs.Common.{append_assoc}
use Rattle.rx_books_text.proofs.writing.put_period.Goals as goal

-- the first date comes after the text with its bar, and the last date after them
pub returns-clause-items : goal.returns-clause-items
returns-clause-items c =
    simp (c.put.ensures.items, c.put_date.ensures.items, c.date_write.ensures.text, c.first.ensures, c.last.ensures, append_assoc)
