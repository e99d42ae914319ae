use Rattle.std.proofs.Common.{ap, rules}
use Rattle.std.specs.Prelude.{codes}
use Rattle.rx_explain_text.specs.Claims.{source_text, whole_text, whose_member}
use Rattle.rx_explain_text.specs.Codes.{shown}
use Rattle.rx_print.specs.Dates.{dashed}
use Rattle.rx_explain_text.specs.Said.{say}
use Rattle.std.specs.Fmt.{decimal}
use Rattle.rx_print.proofs.Written.{as_text, eight}
use Rattle.rx_explain_text.proofs.reasons.put_whole.Goals as goal

pub returns : goal.returns
unfolding whole_text
returns c =
    eight c.args.page.now c.say.new.self c.number.new.self c.say-2.new.self c.day.new.self c.say-3.new.self c.escaped.new.self
    c.put_member.new.page c.put_source.new.page
    (say "rx ")
    (decimal c.args.traced.now.row.key.reference)
    (say " of ")
    (dashed c.args.traced.now.row.key.date)
    (say " at ")
    (shown c.args.traced.now.row.key.provider)
    (whose_member (codes " for ") (codes "/") c.args.traced.now.row.family c.args.traced.now.row.person)
    (source_text c.args.traced.now)
    c.say.ensures
    (as_text c.say.new.self c.number.new.self (ap decimal (search rules)) c.number.ensures)
    c.say-2.ensures
    c.day.ensures
    c.say-3.ensures
    (as_text c.say-3.new.self c.escaped.new.self (ap shown c.bytes.ensures.value) c.escaped.ensures)
    c.put_member.ensures
    c.put_source.ensures
