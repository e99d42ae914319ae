use Rattle.std.proofs.Common.{ap, ◌∙◌}
use Rattle.rx_diagnostics.specs.KnownKeys.{texts_of}
use Rattle.rx_diagnostics.specs.Likeness.{nearest}
use Rattle.rx_diagnostics.proofs.sheet_drugs.meant_tier.Goals as goal

pub returns : goal.returns
returns c =
    let names = texts_of c.args.names.now in
    let found = c.nearest.ensures ∙ ap (λ n. nearest n names) c.as_bytes.ensures.value in
    rw found at c.like_words.ensures
