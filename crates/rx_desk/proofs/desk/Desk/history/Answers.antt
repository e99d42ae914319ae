use Rattle.rx_desk.proofs.Ended.{noted_are}
use Rattle.rx_desk.proofs.desk.Desk.history.Goals as goal

pub returns-clause-noted : goal.returns-clause-noted
returns-clause-noted c =
    rw (← c.self.view_is) (noted_are _ _ c.self.invariant.desk.of_job c.self.invariant.desk.legal)
