-- The files hold the replies of the runs, and nothing refuses them.
use Rattle.rx_switch.proofs.JoinAccepted.{only_memory}
use Rattle.rx_switch.proofs.JoinRuns.{joined_same}
use Rattle.rx_switch.proofs.join_law.law_of_join.Goals as goal

pub returns-clause-same : goal.returns-clause-same
returns-clause-same c g t j u is runs joined = joined_same g t j u is runs joined

pub returns-clause-accepted : goal.returns-clause-accepted
returns-clause-accepted c g t j f is runs some refused = only_memory g is.inputs is.accepted j runs some refused
