use Rattle.std.proofs.Common.{ap, codes, ◌∙◌}
use Rattle.std.specs.Fmt.{decimal}
use Rattle.rx_report_text.specs.Providers.{length_text, share, sign_text, size}
use Rattle.rx_print.proofs.Written.{as_text, five}
use Rattle.rx_report_text.proofs.providers.put_length.Goals as goal

pub returns : goal.returns
unfolding length_text
returns c =
    five c.args.page.now c.markup.new.self c.put_sign.new.page c.markup-2.new.self c.number.new.self c.markup-3.new.self
    (codes "<td class=\"bar\"><span")
    (sign_text c.args.tally.now)
    (codes " style=\"--share:")
    (decimal (share (size c.args.tally.now) c.args.longest))
    (codes "\"></span></td>")
    c.markup.ensures
    c.put_sign.ensures
    c.markup-2.ensures
    (as_text c.markup-2.new.self c.number.new.self
    (ap decimal (c.share.ensures ∙ ap (λ s. share s c.args.longest) c.size.ensures)) c.number.ensures)
    c.markup-3.ensures
