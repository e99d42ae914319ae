use Rattle.std.proofs.Common.{[], ◌∷◌, append_assoc}
use Rattle.rx_fields.specs.Calendar.{date_text}
use Rattle.rx_books_text.proofs.writing.put_date.Goals as goal

-- the date comes after the text, and the bar after both
pub returns-clause-items : goal.returns-clause-items
returns-clause-items c =
    rw (c.put-2.ensures.items, c.put.ensures.items, c.date_write.ensures.text)
    (append_assoc c.args.text.now.items (date_text c.args.date) (124 ∷ []))
