use Rattle.std.proofs.Common.{ap}
use Rattle.rx_print.specs.Said.{say}
use Rattle.rx_commands.specs.FamilyColumns.{covered_text, member_text, shown}
use Rattle.rx_print.proofs.Written.{as_text, three}
use Rattle.rx_commands.proofs.family.columns.put_member.Goals as goal

pub returns : goal.returns
unfolding member_text
returns c =
    three c.args.page.now c.say.new.self c.escaped.new.self c.put_covered.new.page
    (say "Deductible of ")
    (shown c.args.shown.now.member.key.person)
    (covered_text c.args.shown.now)
    c.say.ensures
    (as_text c.say.new.self c.escaped.new.self (ap shown c.bytes.ensures.value) c.escaped.ensures)
    c.put_covered.ensures
