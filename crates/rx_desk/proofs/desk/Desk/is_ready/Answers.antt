use Rattle.rx_desk.proofs.Left.{ready_exact}
use Rattle.rx_desk.proofs.desk.Desk.is_ready.Goals as goal

pub returns : goal.returns
returns c =
    rw (← c.self.view_is) (ready_exact _ _ _ _ _ _ _ _ _ c.self.invariant _ c.ready.ensures.next _ c.is_some.ensures)
