use Rattle.std.proofs.Common.{refl}
use Rattle.std.proofs.lemmas.Str.Ascii.{trim_ascii_is}
use Rattle.rx_diagnostics.specs.SheetLines.{front_trimmed, trimmed}
use Rattle.rx_diagnostics.proofs.sheet_lines.trimmed.Goals as goal

pub returns : goal.returns
unfolding trimmed
returns c =
    trim_ascii_is c.args.text.now c.trim_ascii.result.now (front_trimmed c.args.text.now) refl c.trim_ascii.ensures.value
