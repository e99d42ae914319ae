-- The text is read as the plan's figures with the drugs that the record bills.
use Rattle.rx_commands.proofs.excerpts.sheet_file.sheet_text.Goals as goal

pub returns-then-is_text-clause-text : goal.returns-then-is_text-clause-text
returns-then-is_text-clause-text c =
    rw (c.deref-2.ensures.value, c.figures-2.ensures.value, c.deref-3.ensures.value, c.in_ok-drugs.ensures)
    at (c.in_ok-is_text.ensures c.if-is_text.true)
