use Rattle.std.proofs.Common.{ap, rules, ◌∙◌}
use Rattle.rx_explain_text.specs.Claims.{traced_text}
use Rattle.rx_explain_text.specs.Reasons.{days_between, earlier_text, open_text, sum_text}
use Rattle.rx_explain_text.specs.Said.{say}
use Rattle.std.specs.Fmt.{decimal}
use Rattle.rx_print.proofs.Written.{as_text, seven}
use Rattle.rx_explain_text.proofs.reasons.put_earlier.Goals as goal

pub returns : goal.returns
unfolding earlier_text
returns c =
    seven c.args.page.now c.say.new.self c.put_traced.new.page c.say-2.new.self c.number.new.self c.say-3.new.self c.put_sum.new.page
    c.put_open_from.new.page
    (say "  earlier fill ")
    (traced_text c.args.earlier.now)
    (say ", ")
    (decimal c.args.earlier.now.row.days)
    (say " days: ")
    (sum_text (days_between c.args.explanation.now.date c.args.earlier.now.row.key.date) c.args.earlier.now.row.days
    c.args.figures.now.refill_percent)
    (open_text c.args.explanation.now.open_from)
    c.say.ensures
    c.put_traced.ensures
    c.say-2.ensures
    (as_text c.say-2.new.self c.number.new.self (ap decimal (search rules)) c.number.ensures)
    c.say-3.ensures
    (as_text c.say-3.new.self c.put_sum.new.page
    (ap (λ n. sum_text n c.get-days.result c.args.figures.now.refill_percent) (search rules)
    ∙ ap (λ n. sum_text (days_between c.args.explanation.now.date c.args.earlier.now.row.key.date) n
    c.args.figures.now.refill_percent) (search rules)) c.put_sum.ensures)
    c.put_open_from.ensures
