use Rattle.rx_diagnostics.specs.BooksTotals.{paid_text}
use Rattle.rx_diagnostics.proofs.books_totals.paid_words.Goals as goal

pub returns : goal.returns
unfolding paid_text
returns c = rw (← c.in_ok-said.ensures, ← c.deref.ensures) c.family_said.ensures
