use Rattle.rx_books_parcel.proofs.Tested.{agree_exact}
use Rattle.rx_books_parcel.proofs.parcel.Parcel.agrees.Goals as goal

pub returns : goal.returns
returns c = agree_exact c.args.self.now c.passes.ensures.within c.passes.result c.passes.ensures.value
