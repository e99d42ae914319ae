use Rattle.rx_print.specs.Dates.{dashed}
use Rattle.rx_explain_text.specs.Reasons.{elsewhere_fill, open_text}
use Rattle.rx_explain_text.specs.Said.{say}
use Rattle.rx_print.proofs.Written.{three}
use Rattle.rx_explain_text.proofs.reasons.put_fill_elsewhere.Goals as goal

pub returns : goal.returns
unfolding elsewhere_fill
returns c =
    three c.args.page.now c.say.new.self c.day.new.self c.put_open_from.new.page
    (say "  earlier fill at another pharmacy, of ")
    (dashed c.args.date)
    (open_text c.args.open_from)
    c.say.ensures
    c.day.ensures
    c.put_open_from.ensures
