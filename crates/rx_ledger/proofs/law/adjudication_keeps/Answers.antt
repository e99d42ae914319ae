use Rattle.rx_ledger.proofs.NamedKeys.{members_stay, row_stays}
use Rattle.rx_ledger.proofs.law.adjudication_keeps.Goals as goal

pub returns-clause-members : goal.returns-clause-members
returns-clause-members c lot plan place transmissions L = members_stay lot plan place transmissions L

pub returns-clause-unnamed : goal.returns-clause-unnamed
returns-clause-unnamed c lot plan place transmissions L key other = row_stays lot plan key place transmissions L other
