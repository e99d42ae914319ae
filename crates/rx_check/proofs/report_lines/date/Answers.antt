use Rattle.std.proofs.Common.{sym, subst, ◌∙◌}
use Rattle.std.specs.Str.{IsUtf8}
use Rattle.rx_check.proofs.Dates.{date_is_text}
use Rattle.rx_check.proofs.report_lines.date.Goals as goal

pub returns : goal.returns
returns c =
    let text = c.date_write-digits.ensures.text in
    c.in_ok-text.ensures.ok (subst IsUtf8 (sym text) (date_is_text c.args.day)) ∙ text
