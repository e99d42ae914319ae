use Rattle.std.proofs.Common.{ap, ◌∙◌}
use Rattle.rx_diagnostics.specs.KnownKeys.{texts_of}
use Rattle.rx_diagnostics.specs.Likeness.{nearest}
use Rattle.rx_diagnostics.proofs.sheet.meant_among.Goals as goal

pub returns : goal.returns
returns c =
    let others = texts_of c.args.others.now in
    let found = c.nearest.ensures ∙ ap (λ n. nearest n others) (c.as_bytes.ensures.value ∙ c.name_of.ensures) in
    rw found at c.meant_words.ensures
