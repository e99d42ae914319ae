use Rattle.rx_books_store.proofs.WholeBooks.{one_told}
use Rattle.rx_books_store.proofs.whole.Whole.is_same.Goals as goal

pub returns : goal.returns
returns c = one_told c.args.self.now c.args.other.now c.are_one.ensures.ours c.are_one.ensures.theirs c.are_one.result c.are_one.ensures.value
