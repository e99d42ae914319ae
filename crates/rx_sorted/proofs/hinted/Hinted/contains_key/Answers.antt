use Rattle.rx_sorted.proofs.Places.{contains_key-searched}
use Rattle.rx_sorted.proofs.hinted.Hinted.contains_key.Goals as goal

pub returns : goal.returns
returns g c =
    rw c.is_ok.ensures.value
    (contains_key-searched g.T.Key.Ord.cmp g.met.T.Key.Ord.total g.T.Keyed.key_of c.args.self.now c.args.key.now
    c.place.result c.place.ensures.found c.place.ensures.absent)
