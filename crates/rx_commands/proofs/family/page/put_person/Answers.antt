use Rattle.std.proofs.Common.{ap, codes}
use Rattle.rx_commands.specs.FamilyPage.{id_cell}
use Rattle.rx_print.proofs.Written.{as_text}
use Rattle.rx_commands.proofs.family.page.put_person.Goals as goal

pub returns : goal.returns
returns c =
    as_text c.args.page.now c.put_id.new.page (ap (id_cell (codes "<td><i>Person</i>")) c.bytes.ensures.value) c.put_id.ensures
