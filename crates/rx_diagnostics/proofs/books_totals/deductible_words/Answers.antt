use Rattle.rx_diagnostics.specs.BooksTotals.{deductible_text}
use Rattle.rx_diagnostics.proofs.books_totals.deductible_words.Goals as goal

pub returns : goal.returns
unfolding deductible_text
returns c =
    rw (← c.deductible_of.ensures, ← c.in_ok-said.ensures, ← c.as_str.ensures.value) c.family_said.ensures
