use Rattle.rx_explain.proofs.Unnamed.{unnamed}
use Rattle.rx_explain.proofs.law.others_stay_unnamed.Goals as goal

pub returns : goal.returns
returns c x y u v alike seen too = unnamed x y u v alike seen too
