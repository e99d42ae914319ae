use Rattle.std.proofs.lemmas.Str.Ascii.{trim_ascii_end_is}
use Rattle.rx_report_text.specs.Columns.{without_end}
use Rattle.rx_report_text.proofs.columns.without_end.Goals as goal

pub returns : goal.returns
unfolding without_end
returns c = trim_ascii_end_is c.args.cells.now c.trim_ascii_end.result.now c.trim_ascii_end.ensures.value
