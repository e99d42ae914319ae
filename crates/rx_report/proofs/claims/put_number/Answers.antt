use Rattle.std.proofs.Common.{ap, ◌∙◌}
use Rattle.rx_fields.specs.Digits.{digits_text}
use Rattle.rx_print.proofs.Written.{as_text}
use Rattle.rx_report.specs.Texts.{quoted}
use Rattle.rx_report.proofs.claims.put_number.Goals as goal

pub returns : goal.returns
returns c =
    let number = c.digits_write-number.ensures.text ∙ ap (digits_text 7) (c.from.ensures ∙ c.number.ensures.value) in
    as_text c.args.page.now c.put_quoted.new.page (ap quoted number) c.put_quoted.ensures
