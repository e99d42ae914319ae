use Rattle.rx_commands.specs.FamilyColumns.{claim_text, fill_text}
use Rattle.rx_print.specs.Said.{say}
use Rattle.rx_print.specs.declared.style.Style.TheVariants.{Terminal}
use Rattle.rx_print.proofs.Written.{two}
use Rattle.rx_commands.proofs.family.columns.put_claim.Goals as goal

pub returns : goal.returns
unfolding claim_text
returns c =
    two c.args.page.now c.say.new.self c.put_fill.new.page
    (say ", reached with ")
    (fill_text Terminal c.args.row.now)
    c.say.ensures
    c.put_fill.ensures
