use Rattle.std.proofs.Common.{◌≡◌, ◌==◌, [], ap, false, if◌then◌else◌, length, sym, ◌∙◌}
use Rattle.rx_report_text.specs.Reasons.{said_row, without_front}
use Rattle.rx_print.proofs.Written.{as_text}
use Rattle.rx_report_text.proofs.reasons.put_words.Goals as goal

pub returns-then-not-is_empty : goal.returns-then-not-is_empty
returns-then-not-is_empty c =
    let filled : (length c.args.line.now == 0) ≡ false = sym c.is_empty.ensures ∙ c.if-not-is_empty.true in
    as_text c.args.page.now c.put_framed.new.page
    (ap said_row c.without_front-words.ensures
    ∙ ap (λ empty. if empty then [] else said_row (without_front c.args.line.now)) (sym filled))
    c.put_framed.ensures
