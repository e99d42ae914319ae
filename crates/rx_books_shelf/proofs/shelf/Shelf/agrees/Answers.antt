use Rattle.rx_books_shelf.proofs.ShelfAgreed.{tests_tell}
use Rattle.rx_books_shelf.proofs.shelf.Shelf.agrees.Goals as goal

pub returns : goal.returns
returns c = tests_tell c.args.self.now c.passes.ensures.within c.passes.result c.passes.ensures.value
