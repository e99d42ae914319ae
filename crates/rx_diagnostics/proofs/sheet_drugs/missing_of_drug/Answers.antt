use Rattle.rx_diagnostics.proofs.sheet_drugs.missing_of_drug.Goals as goal

pub returns : goal.returns
returns c =
    rw (← c.name_of.ensures, ← c.in_ok-expected.ensures, ← c.as_str.ensures.value) c.key_words.ensures
