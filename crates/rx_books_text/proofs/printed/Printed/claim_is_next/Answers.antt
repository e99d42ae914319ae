use Rattle.rx_books_text.proofs.printed.Printed.claim_is_next.Goals as goal

pub is_past-requires : goal.is_past-requires
is_past-requires c = rw c.rows.ensures.value c.rows.ensures.within.rows_rise
