use Rattle.std.proofs.Common.{◌∙◌}
use Rattle.rx_ledger.proofs.Found.{person_found}
use Rattle.rx_ledger.proofs.ledger.Ledger.listed.Goals as goal

pub returns : goal.returns
returns c =
    rw (← c.self.view_is)
    (c.copied.ensures ∙ c.get.ensures
    ∙ person_found c.self.inside.members c.args.key.now.family c.args.key.now.person)
