use Rattle.rx_print.specs.Said.{say}
use Rattle.rx_commands.specs.FamilyColumns.{period_text, span_text}
use Rattle.rx_print.proofs.Written.{three}
use Rattle.rx_commands.proofs.family.columns.put_period.Goals as goal

pub returns : goal.returns
unfolding period_text
returns c =
    three c.args.page.now c.say.new.self c.put_span.new.page c.say-2.new.self
    (say ", benefit period ")
    (span_text c.args.period)
    (say "\n\n")
    c.say.ensures
    c.put_span.ensures
    c.say-2.ensures
